-- Digits, and the whole number that they write.
use Rattle.std.specs.Prelude.{◌+◌, ◌-◌, ◌*◌, ◌==◌, ◌&&◌, ℕ, Bool, if◌then◌else◌, not, List, [], ◌∷◌, nat_le}
use Rattle.std.specs.List.{fold, list_all}
use Rattle.dec_text.specs.Lines.{is_filled}

-- '0' to '9'
abbrev pub is_digit : ℕ → Bool
is_digit b = nat_le 48 b && nat_le b 57

-- '0'
abbrev pub is_zero : ℕ → Bool
is_zero b = b == 48

-- one digit or more, and nothing else
abbrev pub are_digits : List ℕ → Bool
are_digits bytes = is_filled bytes && list_all is_digit bytes

-- the number before, with one more digit
abbrev pub then_digit : ℕ → ℕ → ℕ
then_digit n b = 10 * n + (b - 48)

-- the whole number that some digits stand for
abbrev pub number : List ℕ → ℕ
number digits = fold then_digit 0 digits

-- the digits from the first on that is not 0
abbrev pub without_leading_zeros : List ℕ → List ℕ
without_leading_zeros [] = []
without_leading_zeros (d ∷ ds) = if is_zero d then without_leading_zeros ds else d ∷ ds

-- the digits up to the last that is not 0
abbrev pub without_trailing_zeros : List ℕ → List ℕ
without_trailing_zeros [] = []
without_trailing_zeros (d ∷ ds) =
    if is_zero d && not (is_filled (without_trailing_zeros ds)) then [] else d ∷ without_trailing_zeros ds
