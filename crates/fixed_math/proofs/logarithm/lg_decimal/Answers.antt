-- The sum is the logarithm of the decimal, and fits.
use Rattle.std.proofs.Common.{ℕ, ◌<◌, pos, ap, ◌∙◌, rules, FitsSigned, w64, arith}
use Rattle.std.proofs.lemmas.Int.{to_z-of_z}
use Rattle.fixed_math.specs.Logarithm.{log2_of}
use Rattle.fixed_math.proofs.DecimalLemmas.{lg_of_decimal-zero, lg_of_decimal-sum}
use Rattle.fixed_math.proofs.logarithm.lg_decimal.Goals as goal

pub returns-then-digits-eq0-clause-value : goal.returns-then-digits-eq0-clause-value
returns-then-digits-eq0-clause-value c = lg_of_decimal-zero c.args.digits c.args.power c.if-digits-eq0.true

pub returns-else-digits-eq0-clause-value : goal.returns-else-digits-eq0-clause-value
returns-else-digits-eq0-clause-value c =
    let in_range = c.ranges.power in
    let log_fits : FitsSigned w64 c.log2.result = search rules in
    let power_fits : FitsSigned w64 c.from-else-digits-eq0.result = search rules in
    let is_power = simp to_z-of_z at c.from-else-digits-eq0.ensures in
    let some : 0 < c.args.digits = omega (arith, c.if-digits-eq0.false) in
    let log = c.log2.ensures.value ∙ ap (λ (n : ℕ). pos (log2_of n)) c.from.ensures in
    simp to_z-of_z
    (rw is_power (lg_of_decimal-sum c.args.digits c.args.power c.log2.result some c.requires.power c.log2.ensures.range.0 c.log2.ensures.range.1 log))
