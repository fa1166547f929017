-- The factor of a process: its pre-exponential factor times pressure times molar fraction for each gas molecule that it
-- consumes, and for a reverse process divided by the ratio of the two pre-exponential factors. It is kept as the base-2
-- logarithm in units of 2^-30, which is None where one of these numbers is 0.
use Rattle.std.specs.Prelude.{ℕ, ◌==◌, ℤ, pos, ◌+ℤ◌, ◌*ℤ◌, neg_ℤ, List, Option, None, Some, if◌then◌else◌}
use Rattle.std.specs.List.{fold}
use Rattle.std.specs.Option.{option_map}
use Rattle.dec_text.specs.Decimals.{Scientific}
use Rattle.fixed_math.specs.DecimalLogarithm.{lg_of_decimal}

-- the logarithm of a decimal, if it is above 0
abbrev pub lg_of : Scientific → Option ℤ
lg_of decimal = if decimal.negative then None else lg_of_decimal decimal.digits decimal.power

-- the logarithm of a product by those of the two numbers
abbrev pub product_lg : Option ℤ → Option ℤ → Option ℤ
product_lg None y = None
product_lg (Some x) None = None
product_lg (Some x) (Some y) = Some (x +ℤ y)

-- the logarithm of a number to a power; to the power 0 it is 1, also where the number is 0
abbrev pub power_lg : Option ℤ → ℕ → Option ℤ
power_lg lg power = if power == 0 then Some (pos 0) else option_map (λ x. x *ℤ pos power) lg

-- what the molecules that are consumed of one gas add, by its molar fraction and their number
abbrev pub consumed_lg : Scientific → Scientific × ℕ → Option ℤ
consumed_lg pressure gas = power_lg (product_lg (lg_of pressure) (lg_of gas.0)) gas.1

-- the logarithm of the inverse of the ratio of a reverse process; a forward process has no ratio
abbrev pub inverse_lg : Option Scientific → Option ℤ
inverse_lg None = Some (pos 0)
inverse_lg (Some ratio) = option_map neg_ℤ (lg_of ratio)

-- the logarithm of the factor of a process
abbrev pub factor_of : Scientific → Option Scientific → Scientific → List (Scientific × ℕ) → Option ℤ
factor_of pre_exponential ratio pressure consumed =
    fold (λ lg gas. product_lg lg (consumed_lg pressure gas)) (product_lg (lg_of pre_exponential) (inverse_lg ratio)) consumed
