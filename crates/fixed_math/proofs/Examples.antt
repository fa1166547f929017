-- The definitions compute: worked examples, each a numeral worked out by hand elsewhere.
use Rattle.std.proofs.Common.{◌≡◌, ℕ, ◌-◌, ◌^◌, ℤ, pos, negsuc, Some, refl}
use Rattle.kmc_base.specs.declared.firing_time.When.TheVariants.{At}
use Rattle.fixed_math.specs.Logarithm.{greatest_power, fraction_bits, log2_of}
use Rattle.fixed_math.specs.DecimalLogarithm.{lg_of_decimal}
use Rattle.fixed_math.specs.Exponential.{polynomial_at, exp2_of}
use Rattle.fixed_math.specs.Gap.{gap_of}
use Rattle.fixed_math.specs.WaitingTime.{time_of}

logarithm : log2_of (2 ^ 64) ≡ 68719476736
unfolding log2_of greatest_power fraction_bits
logarithm = refl

pre_exponential : lg_of_decimal 1 (pos 13) ≡ Some (pos 46369610716)
unfolding lg_of_decimal log2_of greatest_power fraction_bits
pre_exponential = refl

half : ◌≡◌ {A = ℕ × ℤ} (exp2_of (negsuc 1073741823)) (1073741824, negsuc 0)
unfolding exp2_of polynomial_at
half = refl

middle_gap : gap_of (2 ^ 63 - 1) ≡ 744261118
unfolding gap_of log2_of greatest_power fraction_bits
middle_gap = refl

waiting : time_of (Some (pos 10416910329)) (2 ^ 63 - 1) 0 ≡ At 832495377675556
unfolding time_of exp2_of polynomial_at gap_of log2_of greatest_power fraction_bits
waiting = refl
