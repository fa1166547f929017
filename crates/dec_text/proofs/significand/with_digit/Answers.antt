use Rattle.std.proofs.Common.{◌<◌, arith}
use Rattle.dec_text.proofs.Powers.{digit_bounds, power_below}
use Rattle.dec_text.proofs.significand.with_digit.Goals as goal

pub overflow_mul-result : goal.overflow_mul-result
overflow_mul-result c =
    let room : c.args.kept.count < 18 = omega arith in
    omega (arith, power_below c.args.kept.count room)

pub overflow_add-result-else-kept-eq0 : goal.overflow_add-result-else-kept-eq0
overflow_add-result-else-kept-eq0 c =
    let room : c.args.kept.count < 18 = omega arith in
    omega (arith, power_below c.args.kept.count room, digit_bounds c.args.digit c.requires.digit)
