-- The reaction energies of an instance, in neV, in the forward direction of its step.
use Rattle.std.specs.Prelude.{ℕ, ◌^◌, ℤ, ◌+ℤ◌, ◌-ℤ◌, List}
use Rattle.lattice_core.specs.declared.state.State.{State}
use Rattle.rate_rules.specs.Energy.{energy}
use Rattle.rate_rules.specs.Held.{held_within}
use Rattle.rate_rules.specs.Sides.{bare_side, final_entities, final_side, initial_entities, initial_side}
use Rattle.rate_rules.specs.declared.chemistry.Chemistry.{Chemistry}
use Rattle.rate_rules.specs.declared.chemistry.Process.{Process}

-- the energy of the final states less that of the initial ones, with that of the gas, held within -10^18 and 10^18
abbrev pub energy_difference : Chemistry → ℤ → (ℕ → State) → (ℕ → State) → ℤ
energy_difference chemistry gas initial final =
    held_within (10 ^ 18)
    ((energy chemistry.graph chemistry.clusters final -ℤ energy chemistry.graph chemistry.clusters initial) +ℤ gas)

-- the reaction energy of an instance in the present surroundings
abbrev pub reaction_energy : Chemistry → (ℕ → State) → Process → List ℕ → ℤ
reaction_energy chemistry states process sites =
    energy_difference chemistry process.gas (initial_side process sites states) (final_side process sites states)

-- the same on a lattice that has nothing but the entities of the instance
abbrev pub bare_reaction_energy : Chemistry → Process → List ℕ → ℤ
bare_reaction_energy chemistry process sites =
    energy_difference chemistry process.gas
    (bare_side (initial_entities process) sites)
    (bare_side (final_entities process) sites)
