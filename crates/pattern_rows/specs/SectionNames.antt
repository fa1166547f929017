-- The names of clusters or steps, which differ within a file. Names of variants may repeat.
use Rattle.std.specs.Prelude.{ℕ, List, [], ◌∷◌, ◌++◌, Option, None}
use Rattle.std.specs.List.{list_any}
use Rattle.deck_shape.specs.Blocks.{SectionLines}
use Rattle.deck_values.specs.Lists.{fault_if}
use Rattle.deck_words.specs.Faults.{earliest}
use Rattle.deck_words.specs.Tables.{same_word}
use Rattle.deck_words.specs.declared.fault.LineFault.{LineFault}
use Rattle.deck_words.specs.declared.kind.TheConstants.{REPEATED_NAME}

-- the earliest of some sections that has a name of one above it
abbrev pub repeated_below : List (List ℕ) → List SectionLines → Option LineFault
repeated_below above [] = None
repeated_below above (section ∷ sections) =
    earliest (fault_if (list_any (same_word section.block.name.bytes) above) section.block.line REPEATED_NAME)
    (repeated_below (above ++ section.block.name.bytes ∷ []) sections)

-- the fault of a file in which a name repeats
abbrev pub repeated_name : List SectionLines → Option LineFault
repeated_name sections = repeated_below [] sections
