use Rattle.std.proofs.Common.{arith}
use Rattle.dec_text.proofs.Rounding.{raised_more}
use Rattle.dec_text.proofs.scaled.raised.Goals as goal

pub loop-preserved : goal.loop-preserved
loop-preserved c = omega (arith, raised_more c.args.digits c.loop.counter)
