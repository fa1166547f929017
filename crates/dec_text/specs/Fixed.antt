-- Numbers that are printed with a fixed number of decimals.
use Rattle.std.specs.Prelude.{◌≡◌, ◌+◌, ◌/◌, ◌%◌, ◌^◌, ℕ, zero, suc, ℤ, pos, negsuc, List, [], ◌∷◌, ◌++◌}
use Rattle.std.specs.Fmt.{decimal}

-- so many digits of a number, its last ones
abbrev pub last_digits : ℕ → ℕ → List ℕ
last_digits zero n = []
last_digits (suc k) n = last_digits k (n / 10) ++ (48 + n % 10) ∷ []

-- the number n * 10^-decimals: the whole part, a point and the decimals
abbrev pub fixed_size : ℕ → ℕ → List ℕ
fixed_size n decimals = decimal (n / 10 ^ decimals) ++ 46 ∷ last_digits decimals n

-- the same with a minus before a negative number
abbrev pub fixed_text : ℤ → ℕ → List ℕ
fixed_text (pos n) decimals = fixed_size n decimals
fixed_text (negsuc n) decimals = 45 ∷ fixed_size (n + 1) decimals

-- the new bytes are the old ones and more at their end
abbrev pub Extends : List ℕ → List ℕ → Type 0
Extends old new = (more : List ℕ) × (new ≡ old ++ more)
