-- The two parts of `z`, and the polynomial at its fraction.
use Rattle.std.proofs.Common.{arith, ap, ◌∙◌, ℤ, unsigned_abs, rules, FitsSigned, w64}
use Rattle.std.proofs.lemmas.Int.{to_z-of_z}
use Rattle.fixed_math.specs.Exponential.{polynomial_at, exp2_coefficients}
use Rattle.fixed_math.proofs.ExponentialLemmas.{mantissa_least, exp2_of-pair}
use Rattle.fixed_math.proofs.exponential.exp2.Goals as goal

pub returns-clause-value : goal.returns-clause-value
returns-clause-value c =
    let in_range = c.ranges.z in
    let part_fits : FitsSigned w64 c.rem_euclid-fraction.result = search rules in
    let whole_fits : FitsSigned w64 c.div_euclid.result = search rules in
    let value = simp to_z-of_z at c.polynomial.ensures.value in
    let part = simp to_z-of_z at c.rem_euclid-fraction.ensures.value in
    let whole = simp to_z-of_z at c.div_euclid.ensures in
    exp2_of-pair c.args.z c.polynomial.result _
    (value ∙ ap (λ (r : ℤ). polynomial_at (unsigned_abs r) exp2_coefficients) part)
    (to_z-of_z w64 c.div_euclid.result whole_fits ∙ whole)

pub returns-clause-mantissa : goal.returns-clause-mantissa
returns-clause-mantissa c = let value = c.polynomial.ensures.value in (rw value (mantissa_least _), omega arith)
