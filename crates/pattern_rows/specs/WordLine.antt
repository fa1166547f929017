-- The line of a word of a block.
use Rattle.std.specs.Prelude.{ℕ}
use Rattle.std.specs.List.{find}
use Rattle.std.specs.Option.{option_map_or}
use Rattle.deck_shape.specs.Blocks.{BlockLines, has_keyword}
use Rattle.deck_words.specs.declared.keyword.Keyword.{Keyword}

-- the line of a word of a block itself, or 0 where it has none
abbrev pub word_line : Keyword → BlockLines → ℕ
word_line keyword block = option_map_or (λ item. item.line.number) (find (has_keyword keyword) block.items) 0
