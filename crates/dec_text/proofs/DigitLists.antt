-- digits, one more at their end
use Rattle.std.proofs.Common.{◌≡◌, ℕ, ◌+◌, ◌-◌, ◌*◌, ◌<◌, true, false, List, [], ◌∷◌, ◌++◌, length, get_or, take, refl, ⊎_elim}
use Rattle.std.proofs.lemmas.Bool.{cases_Bool}
use Rattle.std.proofs.lemmas.List.{append-nil, take_more}
use Rattle.std.proofs.lemmas.List.Sums.{fold_push}
use Rattle.std.proofs.lemmas.List.Elements.{filter-append}
use Rattle.std.specs.List.{filter}
use Rattle.dec_text.specs.Decimals.{significant}
use Rattle.dec_text.specs.Digits.{is_digit, is_zero, number, then_digit, without_leading_zeros}
use Rattle.dec_text.specs.Significands.{with_digit}

pub number_push : (ds : List ℕ) (d : ℕ) → number (ds ++ d ∷ []) ≡ 10 * number ds + (d - 48)
number_push ds d = fold_push then_digit 0 ds d

pub without_leading_zeros_push : (ds : List ℕ) (d : ℕ) → without_leading_zeros (ds ++ d ∷ []) ≡ with_digit (without_leading_zeros ds) d
without_leading_zeros_push [] d = refl
without_leading_zeros_push (x ∷ xs) d = ⊎_elim
    (λ (zero_front : is_zero x ≡ true). rw zero_front (without_leading_zeros_push xs d))
    (λ (other : is_zero x ≡ false). rw other refl)
    (cases_Bool (is_zero x))

pub significant_digit : (bytes : List ℕ) (b : ℕ) → is_digit b ≡ true → significant (bytes ++ b ∷ []) ≡ with_digit (significant bytes) b
significant_digit bytes b digit = rw (filter-append is_digit bytes (b ∷ []), digit) (without_leading_zeros_push (filter is_digit bytes) b)

pub significant_point : (bytes : List ℕ) (b : ℕ) → is_digit b ≡ false → significant (bytes ++ b ∷ []) ≡ significant bytes
significant_point bytes b point = rw (filter-append is_digit bytes (b ∷ []), point, append-nil) refl

-- a byte of a mantissa is a digit more, or none
pub significant_more_digit : (bytes : List ℕ) (i : ℕ) → i < length bytes → is_digit (get_or bytes i 0) ≡ true
    → significant (take (i + 1) bytes) ≡ with_digit (significant (take i bytes)) (get_or bytes i 0)
significant_more_digit bytes i inside digit = rw (take_more bytes i 0 inside) (significant_digit (take i bytes) (get_or bytes i 0) digit)

pub significant_more_point : (bytes : List ℕ) (i : ℕ) → i < length bytes → is_digit (get_or bytes i 0) ≡ false
    → significant (take (i + 1) bytes) ≡ significant (take i bytes)
significant_more_point bytes i inside point = rw (take_more bytes i 0 inside) (significant_point (take i bytes) (get_or bytes i 0) point)
