-- Whole numbers: how they are written, and what they are.
use Rattle.std.specs.Prelude.{◌^◌, ◌==◌, ◌&&◌, ℕ, Bool, if◌then◌else◌, List, [], ◌∷◌, nat_lt, Result, Ok, Err}
use Rattle.dec_text.specs.Digits.{are_digits, number}
use Rattle.dec_text.specs.declared.faults.NotWhole.{NotWhole}

-- a word without the plus that it may begin with
abbrev pub after_plus : List ℕ → List ℕ
after_plus [] = []
after_plus (b ∷ bs) = if b == 43 then bs else b ∷ bs

-- whether a word is a whole number below 2^64: one digit or more, after an optional plus
abbrev pub is_whole : List ℕ → Bool
is_whole word = are_digits (after_plus word) && nat_lt (number (after_plus word)) (2 ^ 64)

-- the whole number that a word stands for
abbrev pub whole_number : List ℕ → Result ℕ NotWhole
whole_number word = if is_whole word then Ok (number (after_plus word)) else Err record {}
