-- the rule of a word line
use Rattle.std.proofs.Common.{◌≡◌, false, refl}
use Rattle.dec_text.specs.Lines.{WordLine}
use Rattle.deck_shape.specs.LineWords.{head_of, is_row}
use Rattle.deck_shape.specs.Reading.{SoFar, block_of, rule_at}
use Rattle.deck_words.specs.Tables.{rule_for}

pub word_rule : (so_far : SoFar) (line : WordLine) → is_row line ≡ false → rule_at so_far line ≡ rule_for (block_of so_far) (head_of line)
word_rule so_far line no_row = rw no_row refl
