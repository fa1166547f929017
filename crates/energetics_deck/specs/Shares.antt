-- The share of a cluster: what each of its placements adds to the energy (Nielsen et al. 2013).
use Rattle.std.specs.Prelude.{ℕ, ◌+◌, ◌*◌, ◌/◌, ◌≤◌, ℤ, pos, unsigned_abs}
use Rattle.std.specs.Int.Signed.{lt_z}
use Rattle.dec_text.specs.Decimals.{signed}
use Rattle.energetics_deck.specs.declared.ranges.TheConstants.{MULTIPLICITY}
use Rattle.kmc_base.specs.declared.limits.TheConstants.{MAX_ENERGY}

-- the energy of a cluster over its graph multiplicity, rounded half away from zero
abbrev pub share_of : ℤ → ℕ → ℤ
share_of energy multiplicity = signed (lt_z energy (pos 0)) ((2 * unsigned_abs energy + multiplicity) / (2 * multiplicity))

-- an energy in neV that a file may state
abbrev pub IsEnergy : ℤ → Type 0
IsEnergy energy = unsigned_abs energy ≤ unsigned_abs MAX_ENERGY

-- a graph multiplicity that a file may state
abbrev pub IsMultiplicity : ℕ → Type 0
IsMultiplicity multiplicity = (MULTIPLICITY.least ≤ multiplicity) × (multiplicity ≤ MULTIPLICITY.most)

-- both
pub record AreInRange (energy : ℤ) (multiplicity : ℕ) : Type 0 where
  pub size : IsEnergy energy
  pub share : IsMultiplicity multiplicity
