-- What is printed of a number is read back as that number.
use Rattle.std.specs.Prelude.{◌≡◌, ℕ, ℤ, Ok}
use Rattle.dec_text.specs.Decimals.{Scientific, decimal_of}
use Rattle.dec_text.specs.Fixed.{fixed_text}
use Rattle.dec_text.specs.Scaled.{scaled_value}

-- what was printed with so many decimals is read as a decimal, which scaled by as many places is the number
abbrev pub ReadsBack : ℤ → ℕ → Type 0
ReadsBack v decimals = (n : Scientific) × (decimal_of (fixed_text v decimals) ≡ Ok n) × (scaled_value n decimals ≡ v)
