use Rattle.std.proofs.Common.{◌≡◌, ◌+ℤ◌, ap, arith, to_z, of_z, w64}
use Rattle.std.proofs.Common.{Some}
use Rattle.std.proofs.lemmas.Int.{ints}
use Rattle.rate_rules.proofs.factor.product_lg.Goals as goal

pub overflow_add-result : goal.overflow_add-result
overflow_add-result c =
    let a = c.requires.first c.in_ok-x.x c.in_ok-x.was in
    let b = c.requires.second c.in_ok-y.y c.in_ok-y.was in
    omega (arith, ints)

pub returns : goal.returns
returns c =
    let a = c.requires.first c.in_ok-x.x c.in_ok-x.was in
    let b = c.requires.second c.in_ok-y.y c.in_ok-y.was in
    let sum : to_z w64 (of_z w64 (to_z w64 (of_z w64 c.in_ok-x.x) +ℤ to_z w64 (of_z w64 c.in_ok-y.y))) ≡ c.in_ok-x.x +ℤ c.in_ok-y.y
    = omega (arith, ints) in
    rw (c.in_ok-x.was, c.in_ok-y.was) (ap Some sum)
