-- The numbers of the lines of a block rise, from its opening word to its closing word.
use Rattle.std.specs.Prelude.{ℕ, ◌<◌, List, [], ◌∷◌, ◌++◌, map}
use Rattle.std.specs.List.{flat_map}
use Rattle.deck_shape.specs.Blocks.{BlockLines, ItemLines}

-- the numbers of the lines of a word and of its rows
abbrev pub numbers_of : ItemLines → List ℕ
numbers_of item = item.line.number ∷ map (λ row. row.number) item.rows

-- numbers rise, the first of them above a bound
abbrev pub RiseFrom : ℕ → List ℕ → Type 0
RiseFrom bound [] = Unit {0}
RiseFrom bound (number ∷ numbers) = (bound < number) × RiseFrom number numbers

-- the lines of a block rise
abbrev pub RisesBlock : BlockLines → Type 0
RisesBlock block = RiseFrom block.line (flat_map numbers_of block.items ++ block.end_line ∷ [])
