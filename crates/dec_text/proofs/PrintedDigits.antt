-- the digits that are printed, and their number
use Rattle.std.proofs.Common.{◌≡◌, ℕ, ◌+◌, ◌-◌, ◌*◌, ◌/◌, ◌%◌, ◌^◌, ◌<◌, ◌≤◌, true, false, not, ◌&&◌, List, [], ◌∷◌, ◌++◌, length}
use Rattle.std.proofs.Common.{suc, zero, refl, ap, sym, ◌∙◌, append_assoc, arith, ⊎_elim}
use Rattle.std.specs.Fmt.{decimal}
use Rattle.std.specs.List.{fold}
use Rattle.std.proofs.Math.Nat.{div-div-eq-div-mul, div-one}
use Rattle.std.proofs.lemmas.Bool.{and_parts, cases_Bool, cases_lt}
use Rattle.std.proofs.lemmas.Bool.Decides.{nat_tests}
use Rattle.std.proofs.lemmas.Fmt.{decimal_by_steps_wide}
use Rattle.std.proofs.lemmas.List.{append-nil, length_push}
use Rattle.std.proofs.lemmas.List.Elements.{All-nil, All-push}
use Rattle.dec_text.proofs.DigitLists.{number_push}
use Rattle.dec_text.proofs.Fronts.{Digits}
use Rattle.dec_text.proofs.Powers.{power_at_least, power_suc}
use Rattle.dec_text.proofs.Scientifics.{Digits-tail}
use Rattle.dec_text.specs.Digits.{is_digit, is_zero, number, then_digit, without_leading_zeros, without_trailing_zeros}
use Rattle.dec_text.specs.Fixed.{last_digits}
use Rattle.dec_text.specs.Lines.{is_filled}

digit_of : (n : ℕ) → n < 10 → is_digit (48 + n) ≡ true
digit_of n small = grind (arith, nat_tests)

-- digits, one or more of them
pub record Whole (n : ℕ) (ds : List ℕ) : Type 0 where
  pub digits : Digits ds
  pub some : 0 < length ds
  pub value : number ds ≡ n

pub whole_decimal : (n : ℕ) → n < 10 ^ 64 → Whole n (decimal n)
whole_decimal = decimal_by_steps_wide Whole
    (λ n small. record {
      digits = All-push (λ d. is_digit d ≡ true) [] (48 + n) (All-nil (λ (d : ℕ). is_digit d ≡ true)) (digit_of n small);
      some = omega arith;
      value = omega arith;
    })
    (λ n ds long front. record {
      digits = All-push (λ d. is_digit d ≡ true) ds (48 + n % 10) front.digits (digit_of (n % 10) (omega arith));
      some = omega (arith, length_push ds (48 + n % 10));
      value = omega (arith, number_push ds (48 + n % 10), front.value);
    })

pub Digits-last_digits : (k n : ℕ) → Digits (last_digits k n)
Digits-last_digits zero n = All-nil (λ (d : ℕ). is_digit d ≡ true)
Digits-last_digits (suc k) n =
    All-push (λ d. is_digit d ≡ true) (last_digits k (n / 10)) (48 + n % 10) (Digits-last_digits k (n / 10))
    (digit_of (n % 10) (omega arith))

pub length-last_digits : (k n : ℕ) → length (last_digits k n) ≡ k
length-last_digits zero n = refl
length-last_digits (suc k) n = omega (arith, length_push (last_digits k (n / 10)) (48 + n % 10), length-last_digits k (n / 10))

-- the whole part and the decimals together are the number
pub number_printed : (k n : ℕ) → n < 10 ^ 64 → number (decimal (n / 10 ^ k) ++ last_digits k n) ≡ n
number_printed zero n fits = let one : n / 1 ≡ n = div-one n in rw (append-nil, one) (whole_decimal n fits).value
number_printed (suc k) n fits =
    let tail : ℕ = n / 10 in
    let same : n / 10 ^ suc k ≡ n / 10 / 10 ^ k = ap (λ p. n / p) (power_suc k) ∙ sym (div-div-eq-div-mul n 10 (10 ^ k)) in
    let front : List ℕ = decimal (n / 10 / 10 ^ k) ++ last_digits k (n / 10) in
    rw (same, ← append_assoc) (number_push (decimal (n / 10 / 10 ^ k) ++ last_digits k (n / 10)) (48 + n % 10)
    ∙ (let before : number (decimal (n / 10 / 10 ^ k) ++ last_digits k (n / 10)) ≡ n / 10 = number_printed k (n / 10)
    (omega arith) in omega (arith, before)))

zero_is : (d : ℕ) → is_zero d ≡ true → d ≡ 48
zero_is d e = grind (arith, nat_tests)

-- zeros in front change no number
pub number-without_leading_zeros : (ds : List ℕ) → number (without_leading_zeros ds) ≡ number ds
number-without_leading_zeros [] = refl
number-without_leading_zeros (d ∷ ds) = ⊎_elim
    (λ (zero_front : is_zero d ≡ true).
    let first : then_digit 0 d ≡ 0 = omega (arith, zero_is d zero_front) in
    rw (zero_front, first) (number-without_leading_zeros ds))
    (λ (front : is_zero d ≡ false). rw front refl)
    (cases_Bool (is_zero d))

empty_of : (xs : List ℕ) → not (is_filled xs) ≡ true → xs ≡ []
empty_of [] e = refl
empty_of (x ∷ xs) e = absurd (let f : ⊥ = cc in f)

-- zeros at the end are a power of ten
pub fold-without_trailing_zeros : (n : ℕ) (ds : List ℕ)
    → fold then_digit n ds ≡ fold then_digit n (without_trailing_zeros ds) * 10 ^ (length ds - length (without_trailing_zeros ds))
fold-without_trailing_zeros n [] = omega arith
fold-without_trailing_zeros n (d ∷ ds) = ⊎_elim
    (λ (last : (is_zero d && not (is_filled (without_trailing_zeros ds))) ≡ true).
    let parts = and_parts (is_zero d) (not (is_filled (without_trailing_zeros ds))) last in
    let empty : without_trailing_zeros ds ≡ [] = empty_of (without_trailing_zeros ds) parts.1 in
    let rest : fold then_digit (then_digit n d) ds ≡ then_digit n d * 10 ^ (length ds - 0) =
    rw empty at (fold-without_trailing_zeros (then_digit n d) ds) in
    let ten : then_digit n d ≡ 10 * n = omega (arith, zero_is d parts.0) in
    let long : suc (length ds) - 0 ≡ suc (length ds) = omega arith in
    let all : length ds - 0 ≡ length ds = omega arith in
    rw (last, long, power_suc (length ds)) (rest ∙ rw (ten, all) (omega arith)))
    (λ (more : (is_zero d && not (is_filled (without_trailing_zeros ds))) ≡ false).
    let same : suc (length ds) - suc (length (without_trailing_zeros ds)) ≡ length ds - length (without_trailing_zeros ds) = omega arith in
    rw (more, same) (fold-without_trailing_zeros (then_digit n d) ds))
    (cases_Bool (is_zero d && not (is_filled (without_trailing_zeros ds))))

pub length-without_trailing_zeros : (ds : List ℕ) → length (without_trailing_zeros ds) ≤ length ds
length-without_trailing_zeros [] = omega arith
length-without_trailing_zeros (d ∷ ds) = ⊎_elim
    (λ (last : (is_zero d && not (is_filled (without_trailing_zeros ds))) ≡ true). rw last (omega arith))
    (λ (more : (is_zero d && not (is_filled (without_trailing_zeros ds))) ≡ false). rw more (omega (arith, length-without_trailing_zeros ds)))
    (cases_Bool (is_zero d && not (is_filled (without_trailing_zeros ds))))

large_step : (n x p f : ℕ) → (10 * n + x) * p ≤ f → n * (10 * p) ≤ f
large_step n x p f h = omega arith

-- a number with digits after it is large
large : (n : ℕ) (ds : List ℕ) → n * 10 ^ length ds ≤ fold then_digit n ds
large n [] = omega arith
large n (d ∷ ds) = rw (power_suc (length ds)) (large_step n (d - 48) (10 ^ length ds) _ (large (then_digit n d) ds))

one_le : (y p f : ℕ) → (y + 1) * p ≤ f → p ≤ f
one_le y p f h = omega arith

first_positive : (d : ℕ) → is_digit d ≡ true → is_zero d ≡ false → then_digit 0 d ≡ (d - 49) + 1
first_positive d digit other =
    let bounds : (48 ≤ d) × (d ≡ 48 → ⊥) = grind (arith, nat_tests) in
    omega (arith, bounds)

-- a number below 10^18 has 18 significant digits at most
pub short : (ds : List ℕ) → Digits ds → number (without_leading_zeros ds) < 10 ^ 18 → length (without_leading_zeros ds) ≤ 18
short [] digits = λ small. omega arith
short (d ∷ ds) digits = ⊎_elim
    (λ (zero_front : is_zero d ≡ true). rw zero_front (short ds (Digits-tail d ds digits)))
    (λ (front : is_zero d ≡ false).
    rw front (λ (small : number (d ∷ ds) < 10 ^ 18). ⊎_elim
    (λ (few : length ds < 18). omega arith)
    (λ (many : 18 ≤ length ds).
    let least : 10 ^ 18 ≤ 10 ^ length ds = power_at_least (length ds) many in
    let size : ((d - 49) + 1) * 10 ^ length ds ≤ number (d ∷ ds) =
    rw (← first_positive d (digits 0 0 (omega arith)) front) (large (then_digit 0 d) ds) in
    absurd (omega (arith, one_le (d - 49) (10 ^ length ds) (number (d ∷ ds)) size)))
    (cases_lt (length ds) 18)))
    (cases_Bool (is_zero d))
