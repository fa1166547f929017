-- The type words of a file, in order, also those that no variant needs.
use Rattle.std.specs.Prelude.{ℕ, Bool, true, false, not, List, ◌++◌, filter, nat_lt}
use Rattle.std.specs.List.{flat_map}
use Rattle.deck_shape.specs.Blocks.{BlockLines, SectionLines}
use Rattle.deck_shape.specs.Names.{NameWord}
use Rattle.deck_shape.specs.WordLines.{names_in}
use Rattle.deck_words.specs.declared.keyword.Keyword.TheVariants.{SiteTypes}
use Rattle.pattern_rows.specs.WordLine.{word_line}

-- the type words of a block itself
abbrev pub own_types : BlockLines → List NameWord
own_types block = names_in SiteTypes block.items

-- a variant is above a line
abbrev pub is_above : ℕ → BlockLines → Bool
is_above line variant = nat_lt variant.line line

-- a variant is above a line, or it is not
abbrev pub is_on_side : Bool → ℕ → BlockLines → Bool
is_on_side true line variant = is_above line variant
is_on_side false line variant = not (is_above line variant)

-- the type words of a cluster or a step in order: those of the variants above its own, its own, and those of the variants
-- below
abbrev pub section_types : SectionLines → List NameWord
section_types section =
    let line = word_line SiteTypes section.block in
    flat_map own_types (filter (is_on_side true line) section.variants) ++ own_types section.block
    ++ flat_map own_types (filter (is_on_side false line) section.variants)

-- the type words of some clusters or steps in order
abbrev pub type_words : List SectionLines → List NameWord
type_words sections = flat_map section_types sections
