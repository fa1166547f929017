use Rattle.deck_shape.proofs.InnermostBlocks.{innermost_open}
use Rattle.deck_shape.proofs.laws.block_of_line_is_innermost.Goals as goal

pub returns : goal.returns
returns c = innermost_open
