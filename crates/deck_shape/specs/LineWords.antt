-- The words of a line: its keyword and arguments, or a row.
use Rattle.std.specs.Prelude.{ℕ, ◌==◌, ◌||◌, Bool, false, List, [], ◌∷◌}
use Rattle.dec_text.specs.Digits.{is_digit}
use Rattle.dec_text.specs.Lines.{Run, WordLine, run}

-- the first of some words; an empty one where there is none
abbrev pub first_of : List Run → Run
first_of [] = run 0 []
first_of (word ∷ words) = word

-- the words after the first
abbrev pub after_first : List Run → List Run
after_first [] = []
after_first (word ∷ words) = words

-- the word at the head of a line
abbrev pub head_of : WordLine → List ℕ
head_of line = (first_of line.words).bytes

-- the words behind the word at the head
abbrev pub arguments_of : WordLine → List Run
arguments_of line = after_first line.words

-- a word that begins with a digit, '+' (43), '-' (45), '.' (46) or '&' (38)
abbrev pub begins_row : List ℕ → Bool
begins_row [] = false
begins_row (b ∷ bs) = is_digit b || b == 43 || b == 45 || b == 46 || b == 38

-- A line is a row, or else a word line, by its first word.
abbrev pub is_row : WordLine → Bool
is_row line = begins_row (head_of line)
