-- The blocks of a file that are clusters or steps.
use Rattle.std.specs.Prelude.{List, [], ◌∷◌}
use Rattle.deck_shape.specs.Blocks.{BlockLines, SectionLines}

-- a block, if there are no others in its place
abbrev pub or_itself : BlockLines → List BlockLines → List BlockLines
or_itself block [] = block ∷ []
or_itself block (variant ∷ variants) = variant ∷ variants

-- the variants of a cluster or a step; one without variants is its own only variant
abbrev pub variants_of : SectionLines → List BlockLines
variants_of section = or_itself section.block section.variants
