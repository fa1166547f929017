-- Bounds on logarithms of products and powers.
use Rattle.std.proofs.Common.{◌≡◌, ℕ, ◌+◌, ◌^◌, ◌<◌, ◌≤◌, ℤ, pos, ◌+ℤ◌, ◌*ℤ◌, unsigned_abs, refl, ◌∙◌, arith, w64, to_z, of_z, FitsSigned}
use Rattle.std.proofs.Common.{Option, None, Some}
use Rattle.std.specs.Option.{ForSome}
use native.Mathlib.Nat.{mul-le-mul}
use Rattle.std.proofs.lemmas.Int.{fits_signed_from_abs, ints, fits_signed_mul, to_z-of_z, unsigned_abs-mul}
use Rattle.rate_rules.specs.Factor.{product_lg}

-- the magnitude of a sum
pub sum-within : (a b : ℤ) (m n : ℕ) → unsigned_abs a ≤ m → unsigned_abs b ≤ n → unsigned_abs (a +ℤ b) ≤ m + n
sum-within a b m n p q = first_of (omega (arith, ints), grind (arith, ints), grind arith)

-- the magnitude of the logarithm of a product
pub product_lg-within : (x y : Option ℤ) (m n : ℕ) → ForSome x (λ lg. unsigned_abs lg ≤ m) → ForSome y (λ lg. unsigned_abs lg ≤ n)
    → ForSome (product_lg x y) (λ lg. unsigned_abs lg ≤ m + n)
product_lg-within None y m n p q z e = absurd (cc)
product_lg-within (Some a) None m n p q z e = absurd (cc)
product_lg-within (Some a) (Some b) m n p q z e =
    let s = sum-within a b m n (p a refl) (q b refl) in
    let is : (a +ℤ b) ≡ z = cc in
    rw (← is) s

-- the product that the code computes
pub product-fits : (a b : ℤ) (n : ℕ) → unsigned_abs a ≤ 2 ^ 42 → n < 256 → b ≡ pos n → FitsSigned w64 (to_z w64 (of_z w64 a) *ℤ to_z w64 (of_z w64 b))
product-fits a b n p q e =
    let fa = to_z-of_z w64 a (fits_signed_from_abs w64 a (omega arith)) in
    let fb = to_z-of_z w64 b (fits_signed_from_abs w64 b (rw e (omega arith))) in
    rw (fa, fb, e) (fits_signed_mul w64 a (pos n) (2 ^ 42) 255 p (omega arith) (omega arith))

-- it is the product of the two numbers
pub product-is : (a b : ℤ) (n : ℕ) → unsigned_abs a ≤ 2 ^ 42 → n < 256 → b ≡ pos n
    → to_z w64 (of_z w64 (to_z w64 (of_z w64 a) *ℤ to_z w64 (of_z w64 b))) ≡ a *ℤ pos n
product-is a b n p q e =
    let fa = to_z-of_z w64 a (fits_signed_from_abs w64 a (omega arith)) in
    let fb = to_z-of_z w64 b (fits_signed_from_abs w64 b (rw e (omega arith))) in
    to_z-of_z w64 _ (product-fits a b n p q e) ∙ rw (fa, fb, e) refl

-- and its magnitude
pub product-small : (a : ℤ) (n : ℕ) → unsigned_abs a ≤ 2 ^ 42 → n < 256 → unsigned_abs (a *ℤ pos n) ≤ 2 ^ 50
product-small a n p q =
    let few : n ≤ 256 = omega arith in
    omega (arith, unsigned_abs-mul a (pos n), mul-le-mul p few)
