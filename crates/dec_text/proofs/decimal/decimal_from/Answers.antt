use Rattle.std.proofs.Common.{◌≡◌, ◌+◌, ◌+ℤ◌, ◌-ℤ◌, pos, to_z, of_z, ap, sym, take, ◌∙◌, arith}
use Rattle.std.specs.Int.{w128}
use Rattle.std.proofs.lemmas.Int.{ints}
use Rattle.dec_text.proofs.Powers.{power_at_most}
use Rattle.dec_text.proofs.Scientifics.{Digits-significant, Digits-take, power_capped, scientific_none, scientific_some}
use Rattle.dec_text.specs.Decimals.{places, significant, signed, within_power}
use Rattle.dec_text.proofs.decimal.decimal_from.Goals as goal

pub returns-then-kept-eq0 : goal.returns-then-kept-eq0
returns-then-kept-eq0 c size capped =
    sym (ap within_power (scientific_none c.args.negative c.args.mantissa.now (signed c.args.exponent.0 size)
    (sym c.significant_part-kept.ensures.value ∙ c.if-kept-eq0.true)))

pub with_power-requires-clause-fit : goal.with_power-requires-clause-fit
with_power-requires-clause-fit c =
    let kept = c.significant_part-kept.ensures in
    omega (arith, power_at_most c.significant_part-kept.result.count (omega (arith, kept.count)), kept.fits)

pub returns : goal.returns
returns c size capped =
    let kept = c.significant_part-kept.ensures in
    let m = c.args.mantissa.now in
    let digits = Digits-take 18 (significant m) (Digits-significant m) in
    let value = c.without_zeros-digits.ensures.digits (take 18 (significant m)) digits (sym kept.value) in
    let trimmed = c.without_zeros-digits.ensures.zeros (take 18 (significant m)) digits (sym kept.value) in
    let exact = scientific_some c.args.negative m (signed c.args.exponent.0 size) _ _ _ value (omega arith) trimmed kept.dropped in
    let power : to_z w128 (of_z w128 c.moved.result) ≡ (signed c.args.exponent.0 c.args.exponent.1 -ℤ pos (places m))
    +ℤ pos (c.significant_part-kept.result.dropped + c.without_zeros-digits.result.1) =
    omega (arith, ints, c.moved.ensures, c.signed-exponent.ensures, c.places.ensures) in
    c.with_power.ensures
    ∙ ap (λ p. within_power (record { negative = c.args.negative; digits = c.without_zeros-digits.result.0; power = p })) power
    ∙ power_capped c.args.negative c.without_zeros-digits.result.0 c.args.exponent.0 size c.args.exponent.1 (places m)
    _ capped (omega arith) (omega arith)
    ∙ ap within_power (sym exact)
