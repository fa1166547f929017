use Rattle.std.proofs.Common.{ap, ◌+◌, ℕ, ◌<◌, ◌^◌, arith}
use Rattle.fixed_math.proofs.TimeLemmas.{gap_of-difference}
use Rattle.fixed_math.proofs.LogarithmLemmas.{log2_of-le}
use Rattle.fixed_math.proofs.waiting_time.gap.Goals as goal

pub returns-clause-value : goal.returns-clause-value
returns-clause-value c =
    let fits : c.args.w < 2 ^ 64 = omega arith in
    let w = c.from.ensures in
    gap_of-difference c.args.w (c.from.result + 1) c.log2.result (ap (λ (n : ℕ). n + 1) w)
    (log2_of-le (c.from.result + 1) (omega arith) (omega arith)) c.log2.ensures.value
