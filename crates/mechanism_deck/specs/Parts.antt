-- The values of a mechanism file.
use Rattle.std.specs.Prelude.{ℕ, ◌*◌, Bool, List, length, map, nat_lt, sum, Option, Result, if◌then◌else◌}
use Rattle.std.specs.List.{flat_map}
use Rattle.deck_shape.specs.Blocks.{FileLines, SectionLines}
use Rattle.deck_shape.specs.Names.{NameWord}
use Rattle.deck_values.specs.Lists.{fault_if}
use Rattle.deck_words.specs.Faults.{all_of, value_map, with_fault}
use Rattle.deck_words.specs.declared.fault.LineFault.{LineFault}
use Rattle.deck_words.specs.declared.kind.TheConstants.{TOO_MANY_PARTS}
use Rattle.mechanism_deck.specs.Steps.{StepValues, is_reversible, steps_of}
use Rattle.pattern_rows.specs.SectionNames.{repeated_name}
use Rattle.pattern_rows.specs.TypeWords.{type_words}
use Rattle.pattern_rows.specs.Variants.{variants_of}
use Rattle.pattern_types.specs.declared.limits.TheConstants.{MAX_PROCESSES}

-- the steps in the order of the file, and all its type words in order, also those that no variant needs
pub record MechanismValues : Type 0 where
  pub steps : List StepValues
  pub type_words : List NameWord

-- how many processes a step is: a reversible one is a forward and a reverse process
abbrev pub directions : Bool → ℕ
directions reversible = if reversible then 2 else 1

-- how many processes a block is, with each variant counted
abbrev pub processes_in : SectionLines → ℕ
processes_in section = directions (is_reversible section.block.form) * length (variants_of section)

-- how many processes some blocks are
abbrev pub process_count : List SectionLines → ℕ
process_count sections = sum (map processes_in sections)

-- a file has more processes than it may have, at its closing line
abbrev pub count_fault : FileLines → Option LineFault
count_fault file = fault_if (nat_lt MAX_PROCESSES (process_count file.sections)) file.block.end_line TOO_MANY_PARTS

-- the values of a mechanism file, or the earliest of its faults
abbrev pub part_of : FileLines → Result MechanismValues LineFault
part_of file =
    with_fault (count_fault file) (with_fault (repeated_name file.sections)
    (value_map (λ steps. record { steps = flat_map (λ found. found) steps; type_words = type_words file.sections })
    (all_of (map steps_of file.sections))))
