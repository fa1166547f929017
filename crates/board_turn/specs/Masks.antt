-- Sets of pieces as masks, and what the board's second word, word 1, shows: holder * 2^48 + done mask.
use Rattle.std.specs.Prelude.{ℕ, ◌/◌, ◌%◌, ◌≤◌}
use Rattle.std.specs.Int.{bit_at}

-- the done mask of a word: its low 48 bits say which pieces are done (281474976710656 is 2^48)
abbrev pub mask : ℕ → ℕ
mask word = word % 281474976710656

-- the number of the pass that holds the turn, or 0 where none does
abbrev pub holder : ℕ → ℕ
holder word = word / 281474976710656

-- each piece of the first set is in the second
abbrev pub Within : ℕ → ℕ → Type 0
Within a b = (p : ℕ) → bit_at a p ≤ bit_at b p
