use Rattle.deck_shape.specs.Blocks.{file_at}
use Rattle.deck_shape.proofs.OnceInBlocks.{once_in_blocks}
use Rattle.deck_shape.proofs.laws.once_words_are_once.Goals as goal

pub returns : goal.returns
returns c file text shape is = once_in_blocks (file_at text shape) is.whole
