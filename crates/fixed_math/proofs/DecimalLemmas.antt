-- What the definition of `specs/DecimalLogarithm.antt` gives, and that its sum fits 64 bits.
use Rattle.std.proofs.Common.{◌≡◌, ℕ, zero, suc, ◌^◌, ◌<◌, ◌≤◌, ℤ, pos, ◌+ℤ◌, ◌*ℤ◌, ◌≤ℤ◌, unsigned_abs, Option, Some, None, refl}
use Rattle.std.proofs.Common.{FitsSigned, w64, to_z, of_z, arith, lit<}
use Rattle.std.proofs.lemmas.Int.{ints, to_z-of_z, fits_signed_mul}
use Rattle.fixed_math.specs.Logarithm.{log2_of}
use Rattle.fixed_math.specs.DecimalLogarithm.{lg_of_decimal}

pub lg_of_decimal-zero : (n : ℕ) (power : ℤ) → n ≡ 0 → ◌≡◌ {A = Option ℤ} None (lg_of_decimal n power)
unfolding lg_of_decimal
lg_of_decimal-zero zero power e = refl
lg_of_decimal-zero (suc n) power e = absurd (omega arith)

positive : (n : ℕ) (power : ℤ) → 0 < n → ◌≡◌ {A = Option ℤ} (Some (pos (log2_of n) +ℤ power *ℤ pos 3566893132)) (lg_of_decimal n power)
unfolding lg_of_decimal
positive zero power e = absurd (omega arith)
positive (suc n) power e = refl

pub lg_of_decimal-sum : (n : ℕ) (power l : ℤ) → 0 < n → unsigned_abs power ≤ 400 → pos 0 ≤ℤ l → l ≤ℤ pos (2 ^ 36) → l ≡ pos (log2_of n)
    → ◌≡◌ {A = Option ℤ} (Some (to_z w64 (of_z w64 (l +ℤ to_z w64 (of_z w64 (power *ℤ pos 3566893132)))))) (lg_of_decimal n power)
lg_of_decimal-sum n power l some few low high e =
    let product_fits : FitsSigned w64 (power *ℤ pos 3566893132) =
    fits_signed_mul w64 power (pos 3566893132) 400 3566893132 few (omega arith) (lit< tt) in
    let sum_fits : FitsSigned w64 (l +ℤ power *ℤ pos 3566893132) = omega (arith, ints) in
    simp to_z-of_z (rw e (positive n power some))
