-- What the values of every mechanism file without faults keep.
use Rattle.std.specs.Prelude.{◌≡◌, ◌≤◌, ◌⊎◌, true, false, List, [], length, map, sum, IsSome, IsTrue, IfSome, unsigned_abs}
use Rattle.std.specs.List.{AllByRecursion}
use Rattle.deck_values.specs.Names.{names_repeat}
use Rattle.kmc_base.specs.declared.limits.TheConstants.{MAX_ENERGY}
use Rattle.mechanism_deck.specs.Changes.{GasWords}
use Rattle.mechanism_deck.specs.Numbers.{is_positive}
use Rattle.mechanism_deck.specs.Parts.{MechanismValues, directions}
use Rattle.mechanism_deck.specs.Steps.{BodyValues, StepValues, VariantValues}
use Rattle.mechanism_deck.specs.declared.ranges.TheConstants.{GAS_CHANGE, MOST_CHANGES, PROXIMITY}
use Rattle.pattern_rows.specs.Patterns.{MakePattern}
use Rattle.pattern_types.specs.declared.limits.TheConstants.{MAX_PROCESSES}

-- a change has a magnitude from 1 to 8
abbrev pub IsChange : GasWords → Type 0
IsChange gas = (GAS_CHANGE.least ≤ unsigned_abs gas.1) × (unsigned_abs gas.1 ≤ GAS_CHANGE.most)

-- at most 65 changes, of different species
pub record AreChanges (gas : List GasWords) : Type 0 where
  pub changes : AllByRecursion IsChange gas
  pub differ : names_repeat (map (λ change. change.0.word.bytes) gas) ≡ false
  pub few : length gas ≤ MOST_CHANGES

-- what the sites hold before the step is a pattern, and so is what they hold after it; no row of them takes any state
pub record IsSoundBody (body : BodyValues) : Type 0 where
  pub gas : AreChanges body.gas
  pub before : MakePattern body.sites body.edges body.before
  pub after : MakePattern body.sites body.edges body.after
  pub entities_before : AllByRecursion (λ row. IsSome row) body.before
  pub entities_after : AllByRecursion (λ row. IsSome row) body.after

-- the numbers of a variant are in their ranges
pub record AreInRange (variant : VariantValues) : Type 0 where
  pub pre_expon : variant.pre_expon.negative ≡ false
  pub pe_ratio : IfSome variant.pe_ratio (λ n. is_positive n ≡ true)
  pub activation : unsigned_abs variant.activation ≤ unsigned_abs MAX_ENERGY
  pub proximity : variant.proximity ≤ unsigned_abs PROXIMITY.most

-- a step has a type for each site or any types, and a ratio where it is reversible
pub record IsSoundStep (step : StepValues) : Type 0 where
  pub body : IsSoundBody step.body
  pub types : (step.variant.types ≡ []) ⊎ (length step.variant.types ≡ step.body.sites)
  pub numbers : AreInRange step.variant
  pub ratio : IsTrue step.body.reversible → IsSome step.variant.pe_ratio

-- all steps are, and they are at most 1,024 processes
pub record IsSoundPart (values : MechanismValues) : Type 0 where
  pub steps : AllByRecursion IsSoundStep values.steps
  pub few : sum (map (λ step. directions step.body.reversible) values.steps) ≤ MAX_PROCESSES
