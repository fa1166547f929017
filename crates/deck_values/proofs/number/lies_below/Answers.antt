use Rattle.deck_values.proofs.Powers.{below_further}
use Rattle.deck_values.proofs.number.lies_below.Goals as goal

pub returns-then-power-ge18 : goal.returns-then-power-ge18
returns-then-power-ge18 c = below_further c.args.digits c.args.power c.requires c.if-power-ge18.true
