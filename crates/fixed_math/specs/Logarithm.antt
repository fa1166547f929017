-- The base-2 logarithm of a whole number y from 1 to 2^64, in units of 2^-30, with thirty fraction
-- bits found one by one by squaring (Knuth, The Art of Computer Programming, volume 1, 1.2.2).
use Rattle.std.specs.Prelude.{ℕ, zero, suc, ◌+◌, ◌*◌, ◌/◌, ◌^◌, nat_le, if◌then◌else◌}

-- the greatest k, from 0 to the given one, with 2^k at most y
unfoldable pub greatest_power : ℕ → ℕ → ℕ
greatest_power zero y = 0
greatest_power (suc k) y = if nat_le (2 ^ suc k) y then suc k else greatest_power k y

-- the whole part of the logarithm of y: the greatest k with 2^k at most y
abbrev pub whole_log : ℕ → ℕ
whole_log y = greatest_power 64 y

-- the mantissa of y, which is y / 2^k in units of 2^-31, rounded down: at least 1 and below 2
abbrev pub mantissa_of : ℕ → ℕ
mantissa_of y = y * 2 ^ 31 / 2 ^ whole_log y

-- the first fraction bit of the logarithm of a mantissa: 1 where its square is 2 or more, else 0
abbrev pub leading_bit : ℕ → ℕ
leading_bit x = if nat_le (2 ^ 63) (x * x) then 1 else 0

-- the square of a mantissa, halved where it is 2 or more, rounded down: again a mantissa
abbrev pub squared : ℕ → ℕ
squared x = x * x / 2 ^ (31 + leading_bit x)

-- the first n fraction bits of the logarithm of a mantissa, the first of them the highest
unfoldable pub fraction_bits : ℕ → ℕ → ℕ
fraction_bits zero x = 0
fraction_bits (suc n) x = leading_bit x * 2 ^ n + fraction_bits n (squared x)

-- the base-2 logarithm of y in units of 2^-30: the whole part, then thirty fraction bits
unfoldable pub log2_of : ℕ → ℕ
log2_of y = whole_log y * 2 ^ 30 + fraction_bits 30 (mantissa_of y)
