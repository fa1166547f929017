-- powers of ten
use Rattle.std.proofs.Common.{◌≡◌, ◌∙◌, sym, ℕ, ◌+◌, ◌-◌, ◌*◌, ◌^◌, ◌<◌, ◌≤◌, nat_le, arith, ap, ⊎_elim}
use Rattle.std.proofs.Math.Nat.{one-le-pow, pow-le-pow_right, mul-le-mul_right, le_of_mul-le-mul_right}
use Rattle.std.proofs.lemmas.Bool.{cases_Bool, leb-false, leb-true, le-leb, lt-leb}
use Rattle.std.proofs.lemmas.Nat.{pow-add}
use Rattle.dec_text.proofs.Powers.{power_at_least, power_more}

-- what is below ten to the eighteenth is below each further power
pub below_further : (digits k : ℕ) → digits < 10 ^ 18 → 18 ≤ k → nat_le 18 k ≡ nat_le digits (10 ^ k)
below_further digits k below large =
    let least = power_at_least k large in
    le-leb 18 k large ∙ sym (le-leb digits (10 ^ k) (omega arith))

power_parts : (k m : ℕ) → k ≤ m → 10 ^ m ≡ 10 ^ (m - k) * 10 ^ k
power_parts k m le = let e : m ≡ (m - k) + k = omega arith in ap (λ n. 10 ^ n) e ∙ pow-add 10 (m - k) k

some_power : (k : ℕ) → 1 ≤ 10 ^ k
some_power k = one-le-pow k 10 (omega arith)

same_le : (a b c d : ℕ) → (a ≤ b → c ≤ d) → (c ≤ d → a ≤ b) → nat_le a b ≡ nat_le c d
same_le a b c d there back =
    ⊎_elim
    (λ yes. yes ∙ sym (le-leb c d (there (leb-true a b yes))))
    (λ no. ⊎_elim
    (λ other. let le : a ≤ b = back (leb-true c d other) in let past = leb-false a b no in absurd (omega arith))
    (λ other. no ∙ sym other)
    (cases_Bool (nat_le c d)))
    (cases_Bool (nat_le a b))

-- a power that is not past the other can be taken from both sides
pub raised_le : (digits k m : ℕ) → k ≤ m → nat_le digits (10 ^ (m - k)) ≡ nat_le (digits * 10 ^ k) (10 ^ m)
raised_le digits k m le =
    same_le digits (10 ^ (m - k)) (digits * 10 ^ k) (10 ^ (m - k) * 10 ^ k)
    (λ h. mul-le-mul_right (10 ^ k) h)
    (λ h. le_of_mul-le-mul_right h (some_power k))
    ∙ ap (λ n. nat_le (digits * 10 ^ k) n) (sym (power_parts k m le))

-- digits that are not 0 are above every lower power
pub raised_past : (digits k m : ℕ) → 0 < digits → m < k → nat_le k m ≡ nat_le (digits * 10 ^ k) (10 ^ m)
raised_past digits k m some past =
    let more : 10 ^ (m + 1) ≤ 10 ^ k = pow-le-pow_right {n = 10} (omega arith) (omega arith) in
    let one : 1 * 10 ^ k ≤ digits * 10 ^ k = mul-le-mul_right (10 ^ k) some in
    lt-leb k m past ∙ sym (lt-leb (digits * 10 ^ k) (10 ^ m) (omega (arith, power_more m, some_power m)))
