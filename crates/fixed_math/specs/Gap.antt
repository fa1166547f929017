-- The gap of a 64-bit draw w: the unit exponential variate -ln u of the uniform number
-- u = (w + 1) / 2^64, in units of 2^-30 (inversion sampling).
use Rattle.std.specs.Prelude.{ℕ, ◌+◌, ◌-◌, ◌*◌, ◌/◌, ◌^◌}
use Rattle.fixed_math.specs.Logarithm.{log2_of}

-- (64 - log2 (w + 1)) * ln 2, rounded down; 744261118 is ln 2 in units of 2^-30
unfoldable pub gap_of : ℕ → ℕ
gap_of w = (64 * 2 ^ 30 - log2_of (w + 1)) * 744261118 / 2 ^ 30
