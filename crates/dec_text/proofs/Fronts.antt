-- a number whose last zeros are taken off one by one, and its digits
use Rattle.std.proofs.Common.{◌≡◌, ℕ, ◌+◌, ◌-◌, ◌*◌, ◌/◌, ◌%◌, ◌<◌, ◌≤◌, true, false, List, [], ◌∷◌, ◌++◌, All, length, get_or, take}
use Rattle.std.proofs.Common.{refl, ap, sym, ◌∙◌, arith, ⊎_elim}
use Rattle.std.proofs.lemmas.Bool.{cases_Bool, cases_lt}
use Rattle.std.proofs.lemmas.Bool.Decides.{nat_tests}
use Rattle.std.proofs.lemmas.List.{take_all, take_more, length-take-le, get_or-take}
use Rattle.dec_text.proofs.DigitLists.{number_push}
use Rattle.dec_text.specs.Digits.{is_digit, is_zero, number, without_trailing_zeros}
use Rattle.dec_text.specs.Lines.{is_filled}

is_filled-append : (xs : List ℕ) (y : ℕ) → is_filled (xs ++ y ∷ []) ≡ true
is_filled-append [] y = refl
is_filled-append (x ∷ xs) y = refl

pub trailing_zero : (ds : List ℕ) (d : ℕ) → is_zero d ≡ true → without_trailing_zeros (ds ++ d ∷ []) ≡ without_trailing_zeros ds
trailing_zero [] d zero_last = rw zero_last refl
trailing_zero (x ∷ xs) d zero_last = rw (trailing_zero xs d zero_last) refl

pub trailing_digit : (ds : List ℕ) (d : ℕ) → is_zero d ≡ false → without_trailing_zeros (ds ++ d ∷ []) ≡ ds ++ d ∷ []
trailing_digit [] d other = rw other refl
trailing_digit (x ∷ xs) d other =
    let more : is_filled (xs ++ d ∷ []) ≡ true = is_filled-append xs d in
    rw (trailing_digit xs d other, more) (⊎_elim
    (λ (zero_front : is_zero x ≡ true). rw zero_front refl)
    (λ (front : is_zero x ≡ false). rw front refl)
    (cases_Bool (is_zero x)))

-- all are digits
abbrev pub Digits : List ℕ → Type 0
Digits ds = All (λ d. is_digit d ≡ true) ds

-- some of the digits from the front on, up to zeros that were taken off
pub record Front (ds : List ℕ) (rest zeros : ℕ) : Type 0 where
  pub front : List ℕ
  pub digits : Digits front
  pub value : number front ≡ rest
  pub same : without_trailing_zeros front ≡ without_trailing_zeros ds
  pub size : length front + zeros ≡ length ds

pub whole_front : (ds : List ℕ) → Digits ds → Front ds (number ds) 0
whole_front ds digits = record { front = ds; digits = digits; value = refl; same = refl; size = omega arith }

-- a list that has members ends with its last
pub last_split : (xs : List ℕ) (n : ℕ) → length xs ≡ n + 1 → xs ≡ take n xs ++ get_or xs n 0 ∷ []
last_split xs n long = sym (take_all (n + 1) xs (omega arith)) ∙ take_more xs n 0 (omega arith)

number_none : (ds : List ℕ) → length ds ≡ 0 → number ds ≡ 0
number_none [] none = refl
number_none (x ∷ xs) none = absurd (omega arith)

last_of : (ds : List ℕ) (n : ℕ) → length ds ≡ n + 1 → number ds ≡ 10 * number (take n ds) + (get_or ds n 0 - 48)
last_of ds n long = ap number (last_split ds n long) ∙ number_push (take n ds) (get_or ds n 0)

digit_value : (d : ℕ) → is_digit d ≡ true → (48 ≤ d) × (d ≤ 57)
digit_value d digit = grind (arith, nat_tests)

has_last : (ds : List ℕ) → 0 < number ds → length ds ≡ (length ds - 1) + 1
has_last ds positive = ⊎_elim
    (λ (none : length ds < 1). absurd (omega (arith, number_none ds (omega arith))))
    (λ (some : 1 ≤ length ds). omega arith)
    (cases_lt (length ds) 1)

is_zero_48 : (d : ℕ) → d ≡ 48 → is_zero d ≡ true
is_zero_48 d e = rw e refl

pub front_shorter : (ds : List ℕ) (rest k : ℕ) → Front ds rest k → 0 < rest → rest % 10 ≡ 0 → Front ds (rest / 10) (k + 1)
front_shorter ds rest k f positive divides =
    let n : ℕ = length f.front - 1 in
    let long : length f.front ≡ n + 1 = has_last f.front (omega (arith, f.value)) in
    let last : ℕ = get_or f.front n 0 in
    let bounds : (48 ≤ last) × (last ≤ 57) = digit_value last (f.digits n 0 (omega arith)) in
    let value : number f.front ≡ 10 * number (take n f.front) + (last - 48) = last_of f.front n long in
    let zero_last : is_zero last ≡ true = is_zero_48 last (omega (arith, f.value)) in
    record {
      front = take n f.front;
      digits = λ j e inside.
          let before : j < n = omega (arith, length-take-le n f.front (omega arith)) in
          rw (get_or-take n f.front j e before) (f.digits j e (omega arith));
      value = omega (arith, f.value);
      same = sym (trailing_zero (take n f.front) last zero_last) ∙ ap without_trailing_zeros (sym (last_split f.front n long)) ∙ f.same;
      size = omega (arith, length-take-le n f.front (omega arith), f.size);
    }

is_zero_not : (d : ℕ) → (d ≡ 48 → ⊥) → is_zero d ≡ false
is_zero_not d other = grind (arith, nat_tests)

pub front_done : (ds : List ℕ) (rest k : ℕ) → Front ds rest k → 0 < rest % 10
    → (number (without_trailing_zeros ds) ≡ rest) × (length (without_trailing_zeros ds) + k ≡ length ds)
front_done ds rest k f other =
    let n : ℕ = length f.front - 1 in
    let long : length f.front ≡ n + 1 = has_last f.front (omega (arith, f.value)) in
    let last : ℕ = get_or f.front n 0 in
    let value : number f.front ≡ 10 * number (take n f.front) + (last - 48) = last_of f.front n long in
    let digit_last : is_zero last ≡ false = is_zero_not last (λ e. absurd (omega (arith, f.value))) in
    let kept : without_trailing_zeros ds ≡ f.front =
    sym f.same ∙ ap without_trailing_zeros (last_split f.front n long)
    ∙ trailing_digit (take n f.front) last digit_last ∙ sym (last_split f.front n long) in
    (rw kept f.value, rw kept f.size)
