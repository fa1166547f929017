-- Decimal numbers: how they are written, and what they are.
use Rattle.std.specs.Prelude.{neg_ℤ, ◌≡◌, ◌^◌, ◌%◌, ◌<◌, ◌≤ℤ◌, ◌-◌, ◌==◌, ◌&&◌, ◌||◌, ℕ, ℤ, pos, negsuc, ◌+ℤ◌, ◌-ℤ◌, Bool, false}
use Rattle.std.specs.Prelude.{if◌then◌else◌, List, [], ◌∷◌, length, take, drop, filter, nat_le, Option, Some, None, Result, Ok, Err}
use Rattle.std.specs.Prelude.{count_by}
use Rattle.std.specs.Int.Signed.{le_z}
use Rattle.std.specs.List.{after_first, list_any, prefix_len, take_while}
use Rattle.dec_text.specs.Digits.{is_digit, are_digits, number, without_leading_zeros, without_trailing_zeros}
use Rattle.dec_text.specs.Lines.{is_filled}
use Rattle.dec_text.specs.declared.faults.DecimalFault.{DecimalFault}
use Rattle.dec_text.specs.declared.faults.DecimalFault.TheVariants.{Form, Power}

-- a decimal number: digits times ten to a power, and its sign
pub record Scientific : Type 0 where
  pub negative : Bool
  pub digits : ℕ
  pub power : ℤ

-- '.'
abbrev pub is_point : ℕ → Bool
is_point b = b == 46

-- what a number before its exponent is made of
abbrev pub is_mantissa_byte : ℕ → Bool
is_mantissa_byte b = is_digit b || is_point b

-- 'e', 'E', or Fortran's 'd' or 'D'
abbrev pub is_exponent_letter : ℕ → Bool
is_exponent_letter b = b == 101 || b == 69 || b == 100 || b == 68

-- whether a word begins with a minus
abbrev pub is_negative : List ℕ → Bool
is_negative [] = false
is_negative (b ∷ bs) = b == 45

-- a word without the sign that it may begin with
abbrev pub after_sign : List ℕ → List ℕ
after_sign [] = []
after_sign (b ∷ bs) = if b == 45 || b == 43 then bs else b ∷ bs

-- digits with a point at most, and one digit at least
abbrev pub is_mantissa : List ℕ → Bool
is_mantissa bytes = list_any is_digit bytes && nat_le (count_by is_point bytes) 1

-- a whole number with its sign
abbrev pub signed : Bool → ℕ → ℤ
signed negative n = if negative then neg_ℤ (pos n) else pos n

-- The exponent that follows a mantissa, by its sign and its size: nothing, which is 0, or a letter, an
-- optional sign and digits.
abbrev pub exponent_of : List ℕ → Option (Bool × ℕ)
exponent_of [] = Some (false, 0)
exponent_of (b ∷ bs) =
    if is_exponent_letter b && are_digits (after_sign bs) then Some (is_negative bs, number (after_sign bs)) else None

-- the digits of a mantissa from the first on that is not 0
abbrev pub significant : List ℕ → List ℕ
significant mantissa = without_leading_zeros (filter is_digit mantissa)

-- the digits that count: the first 18 significant ones, without zeros at their end
abbrev pub counted : List ℕ → List ℕ
counted mantissa = without_trailing_zeros (take 18 (significant mantissa))

-- how many digits stand after the point
abbrev pub places : List ℕ → ℕ
places mantissa = length (after_first is_point mantissa)

-- the decimal 0
abbrev pub zero_decimal : Scientific
zero_decimal = record { negative = false; digits = 0; power = pos 0 }

-- The number of a sign, a mantissa and an exponent. Each digit after the point lowers the power by one, and
-- each significant digit that does not count raises it by one. Zero has power 0 and no sign.
abbrev pub scientific : Bool → List ℕ → ℤ → Scientific
scientific negative mantissa exponent =
    if is_filled (counted mantissa)
    then record {
      negative = negative;
      digits = number (counted mantissa);
      power = (exponent -ℤ pos (places mantissa)) +ℤ pos (length (significant mantissa) - length (counted mantissa));
    }
    else zero_decimal

-- a number whose power is from -400 to 400, or the fault that it is not
abbrev pub within_power : Scientific → Result Scientific DecimalFault
within_power n = if le_z (negsuc 399) n.power && le_z n.power (pos 400) then Ok n else Err Power

-- the number of a sign, a mantissa and what follows it, or the fault
abbrev pub decimal_from : Bool → List ℕ → Option (Bool × ℕ) → Result Scientific DecimalFault
decimal_from negative mantissa None = Err Form
decimal_from negative mantissa (Some exponent) =
    if is_mantissa mantissa then within_power (scientific negative mantissa (signed exponent.0 exponent.1)) else Err Form

-- a word's digits and points behind the sign
abbrev pub mantissa_of : List ℕ → List ℕ
mantissa_of word = take_while is_mantissa_byte (after_sign word)

-- what follows them
abbrev pub after_mantissa : List ℕ → List ℕ
after_mantissa word = drop (prefix_len is_mantissa_byte (after_sign word)) (after_sign word)

-- The decimal that a word stands for: an optional sign, digits with an optional point, an optional
-- exponent. Form is the fault of every other word, Power that of a number whose power is outside -400 to 400.
abbrev pub decimal_of : List ℕ → Result Scientific DecimalFault
decimal_of word = decimal_from (is_negative word) (mantissa_of word) (exponent_of (after_mantissa word))

-- What every decimal keeps: its digits are below 10^18; zero has power 0 and no sign; other digits do not
-- end with 0, and their power is from -400 to 400.
pub record IsDecimal (n : Scientific) : Type 0 where
  pub digits_fit : n.digits < 10 ^ 18
  pub power_low : negsuc 399 ≤ℤ n.power
  pub power_high : n.power ≤ℤ pos 400
  pub zero_plain : n.digits ≡ 0 → (n.power ≡ pos 0) × (n.negative ≡ false)
  pub no_trailing_zero : 0 < n.digits → 0 < n.digits % 10
