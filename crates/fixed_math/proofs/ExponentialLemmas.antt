-- What the definitions of `specs/Exponential.antt` give: one step of the polynomial, and its range.
use Rattle.std.proofs.Common.{◌≡◌, ℕ, ◌+◌, ◌*◌, ◌/◌, ◌^◌, ◌<◌, ◌≤◌, List, [], ◌∷◌, length, get_or, drop, refl, ap, ℤ, arith}
use Rattle.fixed_math.specs.Exponential.{polynomial_at, exp2_coefficients, fraction_part, whole_part, exp2_of}

pub polynomial_at-empty : (x : ℕ) (cs : List ℕ) → length cs < 1 → 0 ≡ polynomial_at x cs
unfolding polynomial_at
polynomial_at-empty x [] h = refl
polynomial_at-empty x (c ∷ cs) h = absurd (omega arith)

pub polynomial_at-step : (x r : ℕ) (cs : List ℕ) → 1 ≤ length cs → r ≡ polynomial_at x (drop 1 cs)
    → get_or cs 0 0 + x * r / 2 ^ 30 ≡ polynomial_at x cs
unfolding polynomial_at
polynomial_at-step x r [] h e = absurd (omega arith)
polynomial_at-step x r (c ∷ cs) h e = ap (λ n. c + x * n / 2 ^ 30) e

pub mantissa_least : (x : ℕ) → 2 ^ 30 ≤ polynomial_at x exp2_coefficients
unfolding polynomial_at
mantissa_least x = omega arith

pub exp2_of-pair : (z : ℤ) (m : ℕ) (q : ℤ) → m ≡ polynomial_at (fraction_part z) exp2_coefficients → q ≡ whole_part z
    → ◌≡◌ {A = ℕ × ℤ} (m, q) (exp2_of z)
unfolding exp2_of
exp2_of-pair z m q is_m is_q = cc
