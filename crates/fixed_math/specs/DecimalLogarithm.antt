-- The base-2 logarithm of a decimal digits * 10^power, in units of 2^-30, as rates carry it.
use Rattle.std.specs.Prelude.{ℕ, zero, suc, ℤ, pos, ◌+ℤ◌, ◌*ℤ◌, Option, Some, None}
use Rattle.fixed_math.specs.Logarithm.{log2_of}

-- the logarithm of the digits plus power times that of ten, 3566893132 in units of 2^-30; zero has none
unfoldable pub lg_of_decimal : ℕ → ℤ → Option ℤ
lg_of_decimal zero power = None
lg_of_decimal (suc n) power = Some (pos (log2_of (suc n)) +ℤ power *ℤ pos 3566893132)
