-- the decimal of a word, from its parts as the program reads them
use Rattle.std.proofs.Common.{◌≡◌, ℕ, Bool, true, List, Option, Some, None, Result, drop, min, take, ap, ◌∙◌}
use Rattle.std.specs.List.{prefix_len}
use Rattle.std.specs.Option.{option_map}
use Rattle.dec_text.specs.Decimals.{Scientific, after_sign, is_mantissa_byte, after_mantissa, decimal_from, decimal_of, exponent_of}
use Rattle.dec_text.specs.Decimals.{is_mantissa, is_negative, mantissa_of, scientific, signed, within_power}
use Rattle.dec_text.specs.Significands.{capped}
use Rattle.dec_text.specs.declared.digits.TheConstants.{CAP}
use Rattle.dec_text.specs.declared.faults.DecimalFault.{DecimalFault}

-- an answer that holds of each size that the exponent may have
abbrev Answers : Bool → List ℕ → Bool × ℕ → Result Scientific DecimalFault → Type 0
Answers negative m exponent r = (size : ℕ) → exponent.1 ≡ min CAP size → r ≡ within_power (scientific negative m (signed exponent.0 size))

decimal_from_is : (negative : Bool) (m : List ℕ) (whole : Option (Bool × ℕ)) (exponent : Bool × ℕ) (r : Result Scientific DecimalFault)
    → Some exponent ≡ option_map (capped CAP) whole → is_mantissa m ≡ true → Answers negative m exponent r → r ≡ decimal_from negative m whole
decimal_from_is negative m None exponent r is_capped good answers = absurd (let e : ⊥ = cc in e)
decimal_from_is negative m (Some whole) exponent r is_capped good answers =
    let same : exponent ≡ capped CAP whole = cc in
    rw good (answers whole.1 (ap (λ x. x.1) same) ∙ ap (λ x. within_power (scientific negative m (signed x.0 whole.1))) same)

pub decimal_of_is : (word m tail : List ℕ) (negative : Bool) (exponent : Bool × ℕ) (r : Result Scientific DecimalFault)
    → negative ≡ is_negative word → m ≡ mantissa_of word → tail ≡ after_mantissa word → Some exponent ≡ option_map (capped CAP) (exponent_of tail)
    → is_mantissa m ≡ true → Answers negative m exponent r → r ≡ decimal_of word
decimal_of_is word m tail negative exponent r is_sign is_front is_rest is_capped good answers =
    decimal_from_is negative m (exponent_of tail) exponent r is_capped good answers
    ∙ ap (λ n. decimal_from n m (exponent_of tail)) is_sign
    ∙ ap (λ x. decimal_from (is_negative word) x (exponent_of tail)) is_front
    ∙ ap (λ x. decimal_from (is_negative word) (mantissa_of word) (exponent_of x)) is_rest

pub front_is : (word bytes : List ℕ) (n : ℕ) → n ≡ prefix_len is_mantissa_byte bytes → bytes ≡ after_sign word → take n bytes ≡ mantissa_of word
front_is word bytes n is_long is_unsigned = ap (λ k. take k bytes) is_long ∙ ap (λ b. take (prefix_len is_mantissa_byte b) b) is_unsigned

pub rest_is : (word bytes : List ℕ) (n : ℕ) → n ≡ prefix_len is_mantissa_byte bytes → bytes ≡ after_sign word → drop n bytes ≡ after_mantissa word
rest_is word bytes n is_long is_unsigned = ap (λ k. drop k bytes) is_long ∙ ap (λ b. drop (prefix_len is_mantissa_byte b) b) is_unsigned
