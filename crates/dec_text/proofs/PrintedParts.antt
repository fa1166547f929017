-- the parts of a printed number as a word
use Rattle.std.proofs.Common.{◌≡◌, ℕ, ◌<◌, true, false, cond, List, [], ◌∷◌, ◌++◌, length, refl, arith, length-append, length-drop, count_by}
use Rattle.std.specs.List.{filter, position_or_len, prefix_len}
use Rattle.std.proofs.lemmas.Bool.Decides.{nat_tests}
use Rattle.std.proofs.lemmas.List.Elements.{filter-append}
use Rattle.std.proofs.lemmas.List.Sums.{sum_by-append, sum_by-cons}
use Rattle.dec_text.proofs.Fronts.{Digits}
use Rattle.dec_text.proofs.Scientifics.{Digits-tail}
use Rattle.dec_text.specs.Decimals.{is_mantissa, is_mantissa_byte, is_point, places}
use Rattle.dec_text.specs.Digits.{is_digit}

no_point : (d : ℕ) → is_digit d ≡ true → is_point d ≡ false
no_point d digit = grind (arith, nat_tests)

first : (d : ℕ) (ds : List ℕ) → Digits (d ∷ ds) → is_digit d ≡ true
first d ds digits = digits 0 0 (omega arith)

pub filter-digits : (ds : List ℕ) → Digits ds → filter is_digit ds ≡ ds
filter-digits [] digits = refl
filter-digits (d ∷ ds) digits = rw (first d ds digits, filter-digits ds (Digits-tail d ds digits)) refl

pub filter-printed : (ws fs : List ℕ) → Digits ws → Digits fs → filter is_digit (ws ++ 46 ∷ fs) ≡ ws ++ fs
filter-printed ws fs whole part = rw (filter-append is_digit ws (46 ∷ fs), filter-digits ws whole, filter-digits fs part) refl

prefix_len-digits : (ds : List ℕ) → Digits ds → prefix_len is_mantissa_byte ds ≡ length ds
prefix_len-digits [] digits = refl
prefix_len-digits (d ∷ ds) digits = rw (first d ds digits) (omega (arith, prefix_len-digits ds (Digits-tail d ds digits)))

pub prefix_len-printed : (ws fs : List ℕ) → Digits ws → Digits fs → prefix_len is_mantissa_byte (ws ++ 46 ∷ fs) ≡ length (ws ++ 46 ∷ fs)
prefix_len-printed [] fs whole part = omega (arith, prefix_len-digits fs part)
prefix_len-printed (w ∷ ws) fs whole part = rw (first w ws whole) (omega (arith, prefix_len-printed ws fs (Digits-tail w ws whole) part))

count_by-digits : (ds : List ℕ) → Digits ds → count_by is_point ds ≡ 0
count_by-digits [] digits = refl
count_by-digits (d ∷ ds) digits =
    rw (sum_by-cons (λ x. cond (is_point x) 1 0) d ds, no_point d (first d ds digits))
    (omega (arith, count_by-digits ds (Digits-tail d ds digits)))

count_by-printed : (ws fs : List ℕ) → Digits ws → Digits fs → count_by is_point (ws ++ 46 ∷ fs) ≡ 1
count_by-printed ws fs whole part =
    omega (
      arith,
      sum_by-append (λ x. cond (is_point x) 1 0) ws (46 ∷ fs),
      sum_by-cons (λ x. cond (is_point x) 1 0) 46 fs,
      count_by-digits ws whole,
      count_by-digits fs part,
    )

pub is_mantissa-printed : (ws fs : List ℕ) → Digits ws → Digits fs → 0 < length ws → is_mantissa (ws ++ 46 ∷ fs) ≡ true
is_mantissa-printed [] fs whole part some = absurd (omega arith)
is_mantissa-printed (w ∷ ws) fs whole part some = rw (count_by-printed (w ∷ ws) fs whole part, first w ws whole) refl

position_or_len-printed : (ws fs : List ℕ) → Digits ws → position_or_len is_point (ws ++ 46 ∷ fs) ≡ length ws
position_or_len-printed [] fs whole = refl
position_or_len-printed (w ∷ ws) fs whole = rw (no_point w (first w ws whole)) (omega (arith, position_or_len-printed ws fs (Digits-tail w ws whole)))

pub places-printed : (ws fs : List ℕ) → Digits ws → places (ws ++ 46 ∷ fs) ≡ length fs
places-printed ws fs whole =
    simp (length-drop, length-append) (omega (arith, position_or_len-printed ws fs whole))
