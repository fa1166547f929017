use Rattle.std.proofs.Common.{◌≡◌, ◌-ℤ◌, neg_ℤ, pos, ap, sym, ◌∙◌, arith, to_z, of_z, w64}
use Rattle.std.proofs.Common.{Some}
use Rattle.std.proofs.lemmas.Int.{ints}
use Rattle.rate_rules.specs.Factor.{lg_of}
use Rattle.rate_rules.proofs.factor.inverse_lg.Goals as goal

pub overflow_sub-result : goal.overflow_sub-result
overflow_sub-result c =
    let a = c.lg_of.ensures.range c.in_ok-lg-in-Some.lg c.in_ok-lg-in-Some.was in
    omega (arith, ints)

pub returns-in_ok-lg-in-Some-clause-value : goal.returns-in_ok-lg-in-Some-clause-value
returns-in_ok-lg-in-Some-clause-value c =
    let a = c.lg_of.ensures.range c.in_ok-lg-in-Some.lg c.in_ok-lg-in-Some.was in
    let negated : to_z w64 (of_z w64 (pos 0 -ℤ to_z w64 (of_z w64 c.in_ok-lg-in-Some.lg))) ≡ neg_ℤ c.in_ok-lg-in-Some.lg = omega (arith, ints) in
    let is : lg_of c.in-Some.ratio ≡ Some c.in_ok-lg-in-Some.lg = sym c.lg_of.ensures.value ∙ c.in_ok-lg-in-Some.was in
    rw (c.in-Some.is, is) (ap Some negated)

pub returns-in_ok-lg-in-Some-clause-range : goal.returns-in_ok-lg-in-Some-clause-range
returns-in_ok-lg-in-Some-clause-range c x e =
    let a = c.lg_of.ensures.range c.in_ok-lg-in-Some.lg c.in_ok-lg-in-Some.was in
    let same : to_z w64 (of_z w64 (pos 0 -ℤ to_z w64 (of_z w64 c.in_ok-lg-in-Some.lg))) ≡ x = cc in
    omega (arith, ints)
