-- The processes of the steps of a mechanism file: a forward one of each step, and of a reversible one the reverse after it.
use Rattle.std.specs.Prelude.{ℕ, true, false, [], ◌∷◌, List, None, if◌then◌else◌}
use Rattle.std.specs.List.{flat_map}
use Rattle.deck_join.specs.Gas.{GasNumbers, consumed_of, gas_energy, reversed}
use Rattle.deck_join.specs.Steps.{NamedStep}
use Rattle.pattern_names.specs.Types.{types_for}
use Rattle.pattern_types.specs.Parts.{PatternParts, pattern_of}
use Rattle.pattern_types.specs.declared.wanted.Wanted.{Wanted}
use Rattle.rate_rules.specs.Factor.{factor_of}
use Rattle.rate_rules.specs.declared.chemistry.Process.{Process}

-- a side of a step that wants these states
abbrev pub side_of : List (List ℕ) → NamedStep → List Wanted → PatternParts
side_of type_names step wanted =
    pattern_of step.step.body.edges (types_for type_names step.step.body.sites step.step.variant.types) wanted

-- The forward process of a step. Its factor is the pre-exponential factor, times pressure times molar fraction for each gas
-- molecule that it consumes.
abbrev pub forward_of : GasNumbers → List (List ℕ) → NamedStep → Process
forward_of gases type_names step = record {
  before = side_of type_names step step.changes.before;
  after = side_of type_names step step.changes.after;
  forward = true;
  gas = gas_energy gases.energies step.changes.gas;
  gas_change = step.changes.gas;
  factor = factor_of step.step.variant.pre_expon None gases.pressure (consumed_of gases.fractions step.changes.gas);
  activation = step.step.variant.activation;
  proximity = step.step.variant.proximity;
}

-- The reverse process of a step: the two sides are exchanged, and gas changes the other way. Its pre-exponential factor is
-- that of the forward process over `pe_ratio`; the activation energy and the gas energy are those of the forward direction.
abbrev pub reverse_of : GasNumbers → List (List ℕ) → NamedStep → Process
reverse_of gases type_names step = record {
  before = side_of type_names step step.changes.after;
  after = side_of type_names step step.changes.before;
  forward = false;
  gas = gas_energy gases.energies step.changes.gas;
  gas_change = reversed step.changes.gas;
  factor = factor_of step.step.variant.pre_expon step.step.variant.pe_ratio gases.pressure
      (consumed_of gases.fractions (reversed step.changes.gas));
  activation = step.step.variant.activation;
  proximity = step.step.variant.proximity;
}

-- the processes of a step
abbrev pub processes_of_step : GasNumbers → List (List ℕ) → NamedStep → List Process
processes_of_step gases type_names step =
    if step.step.body.reversible
    then forward_of gases type_names step ∷ reverse_of gases type_names step ∷ []
    else forward_of gases type_names step ∷ []

-- the processes of steps, in their order
abbrev pub processes_of : GasNumbers → List (List ℕ) → List NamedStep → List Process
processes_of gases type_names steps = flat_map (processes_of_step gases type_names) steps
