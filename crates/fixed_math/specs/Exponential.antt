-- Two to the power of a number z in units of 2^-30, as a pair (m, q) that stands for m * 2^(q - 30),
-- where m is at least 2^30 and below 2^31.
use Rattle.std.specs.Prelude.{ℕ, ◌+◌, ◌*◌, ◌/◌, ◌^◌, List, [], ◌∷◌, ℤ, pos, unsigned_abs}
use Rattle.std.specs.Int.{int_div_euclid, int_rem_euclid}

-- the coefficients of 2^x for x from 0 to 1, the constant one first, in units of 2^-30:
-- the Taylor coefficients (ln 2)^n / n!, rounded, which add up to 2^31 - 1
abbrev pub exp2_coefficients : List ℕ
exp2_coefficients =
    1073741824 ∷ 744261118 ∷ 257941248 ∷ 59597083 ∷ 10327387 ∷ 1431680 ∷ 165394 ∷ 16377 ∷ 1419 ∷ 109 ∷ 8 ∷ []

-- the value at x of the polynomial with these coefficients, by Horner's rule: each product of two
-- numbers in units of 2^-30 is rounded down to such units
unfoldable pub polynomial_at : ℕ → List ℕ → ℕ
polynomial_at x [] = 0
polynomial_at x (c ∷ cs) = c + x * polynomial_at x cs / 2 ^ 30

-- q: z in whole units, rounded down
abbrev pub whole_part : ℤ → ℤ
whole_part z = int_div_euclid z (pos (2 ^ 30))

-- what z is above q, in units of 2^-30: from 0 to 2^30 - 1
abbrev pub fraction_part : ℤ → ℕ
fraction_part z = unsigned_abs (int_rem_euclid z (pos (2 ^ 30)))

-- the pair (m, q)
unfoldable pub exp2_of : ℤ → ℕ × ℤ
exp2_of z = (polynomial_at (fraction_part z) exp2_coefficients, whole_part z)
