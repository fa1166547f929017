-- The significant digits of a decimal, as they are read digit by digit. Not part of what is promised: no public contract cites this.
use Rattle.std.specs.Prelude.{◌≡◌, ◌-◌, ◌^◌, ◌<◌, ℕ, Bool, if◌then◌else◌, List, [], ◌∷◌, ◌++◌, length, min, take}
use Rattle.dec_text.specs.Digits.{number, without_leading_zeros}
use Rattle.dec_text.specs.Lines.{is_filled}
use Rattle.dec_text.specs.declared.significand.Significand.{Significand}

-- some significant digits and one more digit, which does not count if it is a 0 in front of all others
abbrev pub with_digit : List ℕ → ℕ → List ℕ
with_digit digits d = if is_filled digits then digits ++ d ∷ [] else without_leading_zeros (d ∷ [])

-- what is kept of some significant digits: the number of the first 18, how many of these there are, and how
-- many more
pub record Keeps (kept : Significand) (digits : List ℕ) : Type 0 where
  pub value : kept.digits ≡ number (take 18 digits)
  pub count : kept.count ≡ min 18 (length digits)
  pub dropped : kept.dropped ≡ length digits - 18
  pub fits : kept.digits < 10 ^ kept.count

-- The sign and the size of an exponent; all sizes above a cap count as the cap.
abbrev pub capped : ℕ → Bool × ℕ → Bool × ℕ
capped cap exponent = (exponent.0, min cap exponent.1)
