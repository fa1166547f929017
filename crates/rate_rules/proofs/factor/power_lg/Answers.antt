use Rattle.std.proofs.Common.{◌≡◌, ◌==◌, false, ◌*ℤ◌, pos, ap, arith}
use Rattle.std.proofs.Common.{Some}
use Rattle.std.proofs.lemmas.Bool.Decides.{nat_tests}
use Rattle.rate_rules.proofs.Logarithms.{product-fits, product-is, product-small}
use Rattle.rate_rules.proofs.factor.power_lg.Goals as goal

pub overflow_mul-result : goal.overflow_mul-result
overflow_mul-result c =
    product-fits c.in_ok-lg.lg c.from.result c.args.power (c.requires c.in_ok-lg.lg c.in_ok-lg.was) (omega arith) c.from.ensures

pub returns-clause-value : goal.returns-clause-value
returns-clause-value c =
    let is = product-is c.in_ok-lg.lg c.from.result c.args.power (c.requires c.in_ok-lg.lg c.in_ok-lg.was) (omega arith) c.from.ensures in
    let some : (c.args.power == 0) ≡ false = grind (arith, nat_tests) in
    rw (some, c.in_ok-lg.was) (ap Some is)

pub returns-clause-range : goal.returns-clause-range
returns-clause-range c x e =
    let is = product-is c.in_ok-lg.lg c.from.result c.args.power (c.requires c.in_ok-lg.lg c.in_ok-lg.was) (omega arith) c.from.ensures in
    let small = product-small c.in_ok-lg.lg c.args.power (c.requires c.in_ok-lg.lg c.in_ok-lg.was) (omega arith) in
    let same : c.in_ok-lg.lg *ℤ pos c.args.power ≡ x = cc in
    rw (← same) small
