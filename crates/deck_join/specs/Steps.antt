-- The steps of a mechanism file, with species and site types by their numbers.
use Rattle.std.specs.Prelude.{ℕ, List, map, Result}
use Rattle.deck_words.specs.Faults.{all_of, both, value_map, with_fault}
use Rattle.deck_words.specs.declared.fault.LineFault.{LineFault}
use Rattle.lattice_deck.specs.Types.{unknown_type}
use Rattle.mechanism_deck.specs.Parts.{MechanismValues}
use Rattle.mechanism_deck.specs.Steps.{BodyValues, StepValues}
use Rattle.pattern_names.specs.Sides.{side_in}
use Rattle.pattern_types.specs.declared.wanted.Wanted.{Wanted}
use Rattle.species_book.specs.Book.{Book}
use Rattle.deck_join.specs.Gas.{GasChange, changes_in}

-- what a step changes: numbers of gas molecules, and what its sites hold before and after it
pub record StepChanges : Type 0 where
  pub gas : List GasChange
  pub before : List Wanted
  pub after : List Wanted

-- what a step changes, or the earliest of its faults
abbrev pub changes_of : Book → BodyValues → Result StepChanges LineFault
changes_of book body =
    value_map (λ found. record { gas = found.0; before = found.1.0; after = found.1.1 })
    (both (changes_in book body.gas) (both (side_in book body.initial_line body.before) (side_in book body.final_line body.after)))

-- a step, and what it changes
pub record NamedStep : Type 0 where
  pub step : StepValues
  pub changes : StepChanges

-- a step and what it changes, or the earliest of its faults
abbrev pub step_in : Book → StepValues → Result NamedStep LineFault
step_in book step = value_map (λ changes. record { step = step; changes = changes }) (changes_of book step.body)

-- the steps of a file, or the earliest fault of a name in it: of a gas species, a surface species, its dentates, or a site type
abbrev pub steps_in : Book → List (List ℕ) → MechanismValues → Result (List NamedStep) LineFault
steps_in book type_names values = with_fault (unknown_type type_names values.type_words) (all_of (map (step_in book) values.steps))
