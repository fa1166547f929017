-- The site types that a pattern asks for, one for each site (`site_types` in the Zacros manual).
use Rattle.std.specs.Prelude.{ℕ, List, [], length, Option, None, Some, Result, Ok}
use Rattle.deck_shape.specs.BlockValues.{line_value_or}
use Rattle.deck_shape.specs.Blocks.{BlockLines, ItemLines}
use Rattle.deck_shape.specs.LineWords.{arguments_of}
use Rattle.deck_shape.specs.Names.{NameWord}
use Rattle.deck_shape.specs.WordLines.{names_on}
use Rattle.deck_values.specs.Lists.{length_fault}
use Rattle.deck_words.specs.Faults.{with_fault}
use Rattle.deck_words.specs.declared.fault.LineFault.{LineFault}
use Rattle.deck_words.specs.declared.keyword.Keyword.TheVariants.{SiteTypes}

-- the type words on a line, one for each site, where the number of sites has no fault; else none of them is looked at
abbrev pub types_on : Option ℕ → ItemLines → Result (List NameWord) LineFault
types_on None item = Ok []
types_on (Some sites) item =
    with_fault (length_fault item.line.number (Some sites) (length (arguments_of item.line))) (Ok (names_on item))

-- the type words of a block, or others where it states none
abbrev pub types_or : Result (List NameWord) LineFault → Option ℕ → BlockLines → Result (List NameWord) LineFault
types_or absent sites block = line_value_or absent (types_on sites) SiteTypes block.items
