-- Decimals in smaller units: times a power of ten, rounded, and within bounds.
use Rattle.std.specs.Prelude.{◌+◌, ◌*◌, ◌/◌, ◌^◌, ◌||◌, ℕ, ℤ, pos, negsuc, ◌+ℤ◌, if◌then◌else◌, Result, Ok, Err}
use Rattle.std.specs.Int.Signed.{lt_z}
use Rattle.dec_text.specs.Decimals.{Scientific, signed}
use Rattle.dec_text.specs.declared.faults.OutOfRange.{OutOfRange}

-- the whole number nearest to some digits times ten to a power; a half goes up
abbrev pub rounded : ℕ → ℤ → ℕ
rounded digits (pos k) = digits * 10 ^ k
rounded digits (negsuc k) = (2 * digits + 10 ^ (k + 1)) / (2 * 10 ^ (k + 1))

-- a decimal times ten to the number of places, rounded half away from zero
abbrev pub scaled_value : Scientific → ℕ → ℤ
scaled_value n places = signed n.negative (rounded n.digits (n.power +ℤ pos places))

-- a number that is neither below the low bound nor above the high one, or the fault that it is
abbrev pub within_bounds : ℤ → ℤ → ℤ → Result ℤ OutOfRange
within_bounds value low high = if lt_z value low || lt_z high value then Err record {} else Ok value

-- the scaled decimal, within its bounds
abbrev pub scaled_within : Scientific → ℕ → ℤ → ℤ → Result ℤ OutOfRange
scaled_within n places low high = within_bounds (scaled_value n places) low high
