use Rattle.std.proofs.Common.{◌≡◌, ◌+ℤ◌, ◌∙◌, pos, min, to_z, of_z, ap, arith}
use Rattle.std.specs.Int.{w32, w128}
use Rattle.std.proofs.lemmas.Int.{ints}
use Rattle.dec_text.proofs.Bounds.{bounds_capped}
use Rattle.dec_text.specs.Decimals.{Scientific, signed}
use Rattle.dec_text.specs.Scaled.{rounded, scaled_within}
use Rattle.dec_text.specs.declared.scaled.TheConstants.{PAST}
use Rattle.dec_text.proofs.decimal.Decimal.scaled.Goals as goal

pub returns : goal.returns
returns c =
    let fields = c.self.inside in
    let power : to_z w32 (of_z w32 (to_z w32 (of_z w32 fields.power) +ℤ to_z w32 c.args.places))
    ≡ fields.power +ℤ pos c.args.places = omega (arith, ints) in
    let size : c.rounded-size.result ≡ min PAST (rounded fields.digits (fields.power +ℤ pos c.args.places)) =
    c.rounded-size.ensures ∙ ap (λ p. min PAST (rounded fields.digits p)) power in
    let value : to_z w128 (of_z w128 c.signed.result) ≡ signed fields.negative c.rounded-size.result = omega (arith, ints, c.signed.ensures.value) in
    let low : to_z w128 (of_z w128 c.args.low) ≡ c.args.low = omega (arith, ints) in
    let high : to_z w128 (of_z w128 c.args.high) ≡ c.args.high = omega (arith, ints) in
    c.within_bounds.ensures
    ∙ rw (value, low, high) (bounds_capped fields.negative _ _ c.args.low c.args.high size c.requires.low c.requires.high)
    ∙ ap (λ (n : Scientific). scaled_within n c.args.places c.args.low c.args.high) c.self.view_is
