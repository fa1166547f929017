-- the number that a mantissa and an exponent stand for
use Rattle.std.proofs.Common.{◌≡◌, ℕ, ◌+◌, ◌-◌, ◌^◌, ◌<◌, ◌≤◌, ℤ, pos, negsuc, ◌+ℤ◌, ◌-ℤ◌, ◌<ℤ◌, Bool, true, false, List, [], ◌∷◌, ◌++◌}
use Rattle.std.proofs.Common.{◌⊎◌, length, take, min, suc, refl, sym, ◌∙◌, arith, inl, inr, ⊎_elim, Err}
use Rattle.std.specs.Int.Signed.{le_z}
use Rattle.std.specs.List.{filter, fold}
use Rattle.std.proofs.lemmas.Bool.{cases_Bool, cases_lt}
use Rattle.std.proofs.lemmas.Bool.Decides.{nat_tests}
use Rattle.std.proofs.lemmas.Int.{ints}
use Rattle.std.proofs.lemmas.List.{length-take}
use Rattle.std.proofs.lemmas.List.Elements.{All-append, All-take, filter_passes}
use Rattle.dec_text.proofs.Fronts.{Digits}
use Rattle.dec_text.specs.Decimals.{counted, places, scientific, signed, significant, within_power, zero_decimal}
use Rattle.dec_text.specs.Digits.{is_digit, is_zero, number, then_digit, without_leading_zeros}
use Rattle.dec_text.specs.Lines.{is_filled}
use Rattle.dec_text.specs.declared.digits.TheConstants.{CAP}
use Rattle.dec_text.specs.declared.faults.DecimalFault.TheVariants.{Power}

grows : (n : ℕ) (ds : List ℕ) → n ≤ fold then_digit n ds
grows n [] = omega arith
grows n (d ∷ ds) = omega (arith, grows (then_digit n d) ds)

pub Digits-tail : (d : ℕ) (ds : List ℕ) → Digits (d ∷ ds) → Digits ds
Digits-tail d ds digits k e inside = digits (suc k) e (omega arith)

Digits-without_leading_zeros : (ds : List ℕ) → Digits ds → Digits (without_leading_zeros ds)
Digits-without_leading_zeros [] digits = digits
Digits-without_leading_zeros (d ∷ ds) digits = ⊎_elim
    (λ (zero_front : is_zero d ≡ true). rw zero_front (Digits-without_leading_zeros ds (Digits-tail d ds digits)))
    (λ (front : is_zero d ≡ false). rw front digits)
    (cases_Bool (is_zero d))

pub Digits-significant : (m : List ℕ) → Digits (significant m)
Digits-significant m = Digits-without_leading_zeros (filter is_digit m) (filter_passes is_digit m)

pub Digits-take : (k : ℕ) (ds : List ℕ) → Digits ds → Digits (take k ds)
Digits-take k ds digits = All-take (λ d. is_digit d ≡ true) k ds digits

digit_not_zero : (d : ℕ) → is_digit d ≡ true → is_zero d ≡ false → 0 < d - 48
digit_not_zero d digit other = grind (arith, nat_tests)

-- significant digits are none, or their number is not 0
leads : (ds : List ℕ) → Digits ds → (without_leading_zeros ds ≡ []) ⊎ (0 < number (take 18 (without_leading_zeros ds)))
leads [] digits = inl refl
leads (d ∷ ds) digits = ⊎_elim
    (λ (zero_front : is_zero d ≡ true). rw zero_front (leads ds (Digits-tail d ds digits)))
    (λ (front : is_zero d ≡ false). rw front
    (inr (omega (arith, grows (then_digit 0 d) (take 17 ds), digit_not_zero d (digits 0 0 (omega arith)) front))))
    (cases_Bool (is_zero d))

-- a number of no digits is 0
pub scientific_none : (negative : Bool) (m : List ℕ) (e : ℤ) → number (take 18 (significant m)) ≡ 0 → scientific negative m e ≡ zero_decimal
scientific_none negative m e none = ⊎_elim
    (λ (empty : significant m ≡ []). rw empty refl)
    (λ (some : 0 < number (take 18 (significant m))). absurd (omega arith))
    (leads (filter is_digit m) (filter_passes is_digit m))

filled_number : (ds : List ℕ) → 0 < number ds → is_filled ds ≡ true
filled_number [] positive = absurd (omega arith)
filled_number (d ∷ ds) positive = refl

-- a number of some digits, by the zeros at their end and by how many do not count
pub scientific_some : (negative : Bool) (m : List ℕ) (e : ℤ) (digits zeros dropped : ℕ) → number (counted m) ≡ digits → 0 < digits
    → length (counted m) + zeros ≡ length (take 18 (significant m)) → dropped ≡ length (significant m) - 18
    → scientific negative m e ≡ record { negative = negative; digits = digits; power = (e -ℤ pos (places m)) +ℤ pos (dropped + zeros) }
scientific_some negative m e digits k dropped value positive trimmed rest =
    let full : is_filled (counted m) ≡ true = filled_number (counted m) (omega arith) in
    let raised : length (significant m) - length (counted m) ≡ dropped + k = omega (arith, length-take 18 (significant m)) in
    rw (full, value, raised) refl

-- a power past 400 is a fault
far_power : (negative : Bool) (digits : ℕ) (p : ℤ) → (p <ℤ negsuc 399) ⊎ (pos 400 <ℤ p)
    → within_power (record { negative = negative; digits = digits; power = p }) ≡ Err Power
far_power negative digits p far = ⊎_elim
    (λ (low : p <ℤ negsuc 399). let test : le_z (negsuc 399) p ≡ false = grind (arith, ints) in rw test refl)
    (λ (high : pos 400 <ℤ p).
    let test : le_z p (pos 400) ≡ false = grind (arith, ints) in
    rw test (⊎_elim
    (λ (above : le_z (negsuc 399) p ≡ true). rw above refl)
    (λ (below : le_z (negsuc 399) p ≡ false). rw below refl)
    (cases_Bool (le_z (negsuc 399) p))))
    far

-- a large exponent makes a power past 400, whatever the digits are
past : (s : Bool) (size lowered raised : ℕ) → CAP ≤ size → lowered < 2 ^ 64 → raised < 2 ^ 65
    → (((signed s size -ℤ pos lowered) +ℤ pos raised) <ℤ negsuc 399) ⊎ (pos 400 <ℤ ((signed s size -ℤ pos lowered) +ℤ pos raised))
past true size lowered raised over low high = inl (omega (arith, ints))
past false size lowered raised over low high = inr (omega (arith, ints))

-- exponents that are not told apart are past it
pub power_capped : (negative : Bool) (digits : ℕ) (s : Bool) (size small lowered raised : ℕ) → small ≡ min CAP size
    → lowered < 2 ^ 64 → raised < 2 ^ 65
    → within_power (record { negative = negative; digits = digits; power = (signed s small -ℤ pos lowered) +ℤ pos raised })
    ≡ within_power (record { negative = negative; digits = digits; power = (signed s size -ℤ pos lowered) +ℤ pos raised })
power_capped negative digits s size small lowered raised capped low high = ⊎_elim
    (λ (over : CAP < size).
    far_power negative digits _ (past s small lowered raised (omega arith) low high)
    ∙ sym (far_power negative digits _ (past s size lowered raised (omega arith) low high)))
    (λ (under : size ≤ CAP). let same : small ≡ size = omega arith in rw same refl)
    (cases_lt CAP size)

pub Digits-append : (xs ys : List ℕ) → Digits xs → Digits ys → Digits (xs ++ ys)
Digits-append xs ys = All-append (λ d. is_digit d ≡ true) xs ys
