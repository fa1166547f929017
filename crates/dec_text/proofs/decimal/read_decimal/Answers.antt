use Rattle.std.proofs.Common.{◌∙◌, sym}
use Rattle.dec_text.proofs.Readings.{decimal_of_is, front_is, rest_is}
use Rattle.dec_text.proofs.decimal.read_decimal.Goals as goal

pub returns : goal.returns
returns c =
    let sign = c.split_sign-negative.ensures in
    decimal_of_is c.args.word.now _ _ _ c.in-Some.exponent _ sign.negative
    (c.split_at.ensures.front ∙ front_is c.args.word.now _ _ c.mantissa_len.ensures.length sign.rest)
    (c.split_at.ensures.back ∙ rest_is c.args.word.now _ _ c.mantissa_len.ensures.length sign.rest)
    c.in-Some.ensures
    (sym c.is_mantissa.ensures ∙ c.if-not-is_mantissa.false)
    c.decimal_from.ensures
