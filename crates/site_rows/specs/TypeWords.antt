-- Type words of sites, each of which is the number of a type or the name of one.
use Rattle.std.specs.Prelude.{ℕ, ◌==◌, ◌&&◌, List, length, Option, None, Some, Result, Ok, Err, if◌then◌else◌, nat_le, unwrap_or}
use Rattle.std.specs.Cmp.Lexicographic.{pointwise}
use Rattle.std.specs.List.{position_from}
use Rattle.dec_text.specs.Wholes.{whole_number}
use Rattle.dec_text.specs.declared.faults.NotWhole.{NotWhole}

-- the number of the first type whose name is this word, byte by byte, from 1; 0 where there is none
abbrev pub type_named : List (List ℕ) → List ℕ → ℕ
type_named names word = unwrap_or (position_from (λ name. pointwise (λ x y. x == y) name word) 1 names) 0

-- the number that a word writes, where it is that of a type
abbrev pub type_numbered : ℕ → Result ℕ NotWhole → Option ℕ
type_numbered count (Err e) = None
type_numbered count (Ok n) = if nat_le 1 n && nat_le n count then Some n else None

-- the type of a type word: that of its number, or else that of its name, or 0 where it is no type
abbrev pub type_of : List (List ℕ) → List ℕ → ℕ
type_of names word = unwrap_or (type_numbered (length names) (whole_number word)) (type_named names word)
