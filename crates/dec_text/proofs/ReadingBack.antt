-- what was printed is read back
use Rattle.std.proofs.Common.{◌≡◌, ℕ, ◌+◌, ◌-◌, ◌*◌, ◌/◌, ◌^◌, ◌<◌, ◌≤◌, ℤ, pos, negsuc, neg_ℤ, ◌+ℤ◌, ◌-ℤ◌, ◌≤ℤ◌, Bool, true, false, ◌==◌}
use Rattle.std.proofs.Common.{List, [], ◌∷◌, ◌++◌, length, take, drop, Some, Ok, refl, ap, sym, ◌∙◌, arith, ⊎_elim, subst, suc, zero}
use Rattle.std.specs.Fmt.{decimal}
use Rattle.std.specs.Int.RustNames.{unsigned_abs}
use Rattle.std.specs.Int.Signed.{le_z}
use Rattle.std.specs.List.{filter, prefix_len}
use Rattle.std.proofs.Math.Nat.{div-le_self}
use Rattle.std.proofs.lemmas.Bool.{cases_lt}
use Rattle.std.proofs.lemmas.Bool.Decides.{nat_tests}
use Rattle.std.proofs.lemmas.Int.{ints}
use Rattle.std.proofs.lemmas.List.{drop_all, take_all}
use Rattle.dec_text.proofs.Fronts.{Digits}
use Rattle.dec_text.proofs.PrintedDigits.{Digits-last_digits, Whole, fold-without_trailing_zeros, length-last_digits}
use Rattle.dec_text.proofs.PrintedDigits.{length-without_trailing_zeros, number-without_leading_zeros, number_printed, short}
use Rattle.dec_text.proofs.PrintedDigits.{whole_decimal}
use Rattle.dec_text.proofs.PrintedParts.{filter-printed, is_mantissa-printed, places-printed, prefix_len-printed}
use Rattle.dec_text.proofs.Scientifics.{Digits-append, scientific_none, scientific_some}
use Rattle.dec_text.specs.Decimals.{Scientific, after_mantissa, after_sign, counted, decimal_from, decimal_of, exponent_of, is_mantissa}
use Rattle.dec_text.specs.Decimals.{is_mantissa_byte, is_negative, mantissa_of, places, scientific, signed, significant, within_power}
use Rattle.dec_text.specs.Decimals.{zero_decimal}
use Rattle.dec_text.specs.Digits.{is_digit, number, without_leading_zeros, without_trailing_zeros}
use Rattle.dec_text.specs.Fixed.{fixed_size, last_digits}
use Rattle.dec_text.specs.ReadBack.{ReadsBack}
use Rattle.dec_text.specs.Scaled.{rounded, scaled_value}

-- a word that is a mantissa behind its sign
word_is : (word m : List ℕ) → after_sign word ≡ m → prefix_len is_mantissa_byte m ≡ length m
    → decimal_of word ≡ decimal_from (is_negative word) m (Some (false, 0))
word_is word m is_unsigned whole =
    let front : mantissa_of word ≡ m = ap (λ b. take (prefix_len is_mantissa_byte b) b) is_unsigned
    ∙ take_all (prefix_len is_mantissa_byte m) m (omega arith) in
    let rest : after_mantissa word ≡ [] = ap (λ b. drop (prefix_len is_mantissa_byte b) b) is_unsigned
    ∙ drop_all (prefix_len is_mantissa_byte m) m (omega arith) in
    ap (λ x. decimal_from (is_negative word) x (exponent_of (after_mantissa word))) front
    ∙ ap (λ x. decimal_from (is_negative word) m (exponent_of x)) rest

no_sign : (w : ℕ) → is_digit w ≡ true → ((w == 45) ≡ false) × ((w == 43) ≡ false)
no_sign w digit = grind (arith, nat_tests)

unsigned : (ws rest : List ℕ) → Digits ws → 0 < length ws → (after_sign (ws ++ rest) ≡ ws ++ rest) × (is_negative (ws ++ rest) ≡ false)
unsigned [] rest digits some = absurd (omega arith)
unsigned (w ∷ ws) rest digits some =
    let other = no_sign w (digits 0 0 (omega arith)) in
    (rw (other.0, other.1) refl, other.0)

whole_part : (n d : ℕ) → n < 10 ^ 18 → Whole (n / 10 ^ d) (decimal (n / 10 ^ d))
whole_part n d small = whole_decimal (n / 10 ^ d) (omega (arith, div-le_self n (10 ^ d)))

-- the digits of a printed number
record Printed (n d : ℕ) (m : List ℕ) : Type 0 where
  digits : List ℕ
  is_significant : significant m ≡ digits
  value : number digits ≡ n
  few : length digits ≤ 18
  is_places : places m ≡ d
  good : is_mantissa m ≡ true
  whole : prefix_len is_mantissa_byte m ≡ length m

printed : (n d : ℕ) → n < 10 ^ 18 → Printed n d (fixed_size n d)
printed n d small =
    let w : Whole (n / 10 ^ d) (decimal (n / 10 ^ d)) = whole_part n d small in
    let part : Digits (last_digits d n) = Digits-last_digits d n in
    let same : filter is_digit (fixed_size n d) ≡ decimal (n / 10 ^ d) ++ last_digits d n = filter-printed _ _ w.digits part in
    let value : number (without_leading_zeros (decimal (n / 10 ^ d) ++ last_digits d n)) ≡ n =
    number-without_leading_zeros (decimal (n / 10 ^ d) ++ last_digits d n) ∙ number_printed d n (omega arith) in
    record {
      digits = without_leading_zeros (decimal (n / 10 ^ d) ++ last_digits d n);
      is_significant = ap without_leading_zeros same;
      value = value;
      few = short (decimal (n / 10 ^ d) ++ last_digits d n) (Digits-append _ _ w.digits part) (omega (arith, value));
      is_places = places-printed _ _ w.digits ∙ length-last_digits d n;
      good = is_mantissa-printed _ _ w.digits part w.some;
      whole = prefix_len-printed _ _ w.digits part;
    }

within : (x : Scientific) → negsuc 399 ≤ℤ x.power → x.power ≤ℤ pos 400 → within_power x ≡ Ok x
within x low high =
    let low_test : le_z (negsuc 399) x.power ≡ true = grind (arith, ints) in
    let high_test : le_z x.power (pos 400) ≡ true = grind (arith, ints) in
    rw (low_test, high_test) refl

-- a number that is read, and scaled is the one that was printed
abbrev Read : Bool → ℕ → ℕ → Type 0
Read negative n d = (x : Scientific) × (decimal_from negative (fixed_size n d) (Some (false, 0)) ≡ Ok x) × (scaled_value x d ≡ signed negative n)

good_mantissa : (negative : Bool) (m : List ℕ) → is_mantissa m ≡ true
    → decimal_from negative m (Some (false, 0)) ≡ within_power (scientific negative m (pos 0))
good_mantissa negative m good = rw good refl

all_count : (n d : ℕ) (m : List ℕ) (p : Printed n d m) → take 18 (significant m) ≡ p.digits
all_count n d m p = ap (take 18) p.is_significant ∙ take_all 18 p.digits p.few

read_zero : (d : ℕ) → Read false 0 d
read_zero d =
    let p : Printed 0 d (fixed_size 0 d) = printed 0 d (omega arith) in
    let none : number (take 18 (significant (fixed_size 0 d))) ≡ 0 = ap number (all_count 0 d (fixed_size 0 d) p) ∙ p.value in
    let size : 0 * 10 ^ (0 + d) ≡ 0 = omega arith in
    (zero_decimal, good_mantissa false (fixed_size 0 d) p.good ∙ ap within_power (scientific_none false (fixed_size 0 d) (pos 0) none), ap pos size)

factor_positive : (x p n : ℕ) → 0 < n → n ≡ x * p → 0 < x
factor_positive zero p n positive product = absurd (omega arith)
factor_positive (suc x) p n positive product = omega arith

read_parts : (negative : Bool) (n d : ℕ) (m : List ℕ) (p : Printed n d m) → 0 < n → d ≤ 18
    → (x : Scientific) × (decimal_from negative m (Some (false, 0)) ≡ Ok x) × (scaled_value x d ≡ signed negative n)
read_parts negative n d m p positive few =
    let kept : List ℕ = without_trailing_zeros p.digits in
    let k : ℕ = length p.digits - length kept in
    let is_counted : counted m ≡ kept = ap without_trailing_zeros (all_count n d m p) in
    let size : n ≡ number kept * 10 ^ k = sym p.value ∙ fold-without_trailing_zeros 0 p.digits in
    let some : 0 < number kept = factor_positive (number kept) (10 ^ k) n positive size in
    let power : ℤ = (pos 0 -ℤ pos (places m)) +ℤ pos (0 + k) in
    let x : Scientific = record { negative = negative; digits = number kept; power = power } in
    let trimmed : length (counted m) + k ≡ length (take 18 (significant m)) =
    omega (arith, ap length is_counted, ap length (all_count n d m p), length-without_trailing_zeros p.digits) in
    let dropped : 0 ≡ length (significant m) - 18 = omega (arith, ap length p.is_significant, p.few) in
    let exact : scientific negative m (pos 0) ≡ x =
    scientific_some negative m (pos 0) (number kept) k 0 (ap number is_counted) some trimmed dropped in
    let low : negsuc 399 ≤ℤ power = omega (arith, ints, p.is_places) in
    let high : power ≤ℤ pos 400 = omega (arith, ints, p.is_places, p.few) in
    let shift : (power +ℤ pos d) ≡ pos k = omega (arith, ints, p.is_places) in (
      x,
      good_mantissa negative m p.good ∙ ap within_power exact ∙ within x low high,
      ap (λ e. signed negative (rounded (number kept) e)) shift ∙ ap (signed negative) (sym size),
    )

read_size : (n d : ℕ) → n < 10 ^ 18 → d ≤ 18 → Read false n d
read_size n d small few = ⊎_elim
    (λ (positive : 0 < n). read_parts false n d (fixed_size n d) (printed n d small) positive few)
    (λ (none : n ≤ 0). let same : 0 ≡ n = omega arith in subst (λ (k : ℕ). Read false k d) same (read_zero d))
    (cases_lt 0 n)

pub reads_back : (v : ℤ) (d : ℕ) → d ≤ 18 → unsigned_abs v < 10 ^ 18 → ReadsBack v d
reads_back (pos n) d few small =
    let w : Whole (n / 10 ^ d) (decimal (n / 10 ^ d)) = whole_part n d small in
    let sign = unsigned (decimal (n / 10 ^ d)) (46 ∷ last_digits d n) w.digits w.some in
    let p : Printed n d (fixed_size n d) = printed n d small in
    let r : Read false n d = read_size n d small few in
    (r.0, word_is (fixed_size n d) (fixed_size n d) sign.0 p.whole ∙ ap (λ s. decimal_from s (fixed_size n d) (Some (false, 0))) sign.1 ∙ r.1, r.2)
reads_back (negsuc n) d few small =
    let fits : n + 1 < 10 ^ 18 = omega arith in
    let p : Printed (n + 1) d (fixed_size (n + 1) d) = printed (n + 1) d fits in
    let r = read_parts true (n + 1) d (fixed_size (n + 1) d) p (omega arith) few in
    let same : n + 1 ≡ suc n = omega arith in
    (r.0, word_is (45 ∷ fixed_size (n + 1) d) (fixed_size (n + 1) d) refl p.whole ∙ r.1, r.2 ∙ ap (λ k. neg_ℤ (pos k)) same)
