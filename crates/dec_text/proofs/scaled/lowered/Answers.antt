use Rattle.std.proofs.Common.{◌≡◌, ◌+◌, ◌/◌, ◌∙◌, ap, arith}
use Rattle.dec_text.proofs.Rounding.{lowered_more, lowered_half}
use Rattle.dec_text.proofs.scaled.lowered.Goals as goal

pub loop-preserved : goal.loop-preserved
loop-preserved c = ap (λ v. v / 10) c.loop.invariant ∙ lowered_more c.args.digits c.loop.counter

pub returns : goal.returns
returns c =
    let last : c.args.power ≡ c.loop.counter + 1 = omega arith in
    rw (c.loop.invariant, last) (lowered_half c.args.digits c.loop.counter)
