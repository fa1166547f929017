-- The lines of a text and their words.
use Rattle.std.specs.Prelude.{◌+◌, ℕ, Bool, true, false, if◌then◌else◌, List, [], ◌∷◌, map, filter}
use Rattle.std.specs.List.{before_first, enumerate_from}
use Rattle.dec_text.specs.Bytes.{is_line_feed, is_comment_mark, is_blank}

-- some bytes of a text, and the place of the first of them, counted from 0
pub record Run : Type 0 where
  pub start : ℕ
  pub bytes : List ℕ

-- the run of some bytes that begins at a place
abbrev pub run : ℕ → List ℕ → Run
run at bytes = record { start = at; bytes = bytes }

-- the runs with a byte before the first of them
abbrev pub with_byte : ℕ → ℕ → List Run → List Run
with_byte at b [] = run at (b ∷ []) ∷ []
with_byte at b (r ∷ rs) = run at (b ∷ r.bytes) ∷ rs

-- The runs between the bytes that cut a text, which begins at a place. Each cut ends a run, which may
-- be empty; after the last cut only a run that has bytes counts.
abbrev pub runs : (ℕ → Bool) → ℕ → List ℕ → List Run
runs is_cut at [] = []
runs is_cut at (b ∷ bs) =
    if is_cut b then run at [] ∷ runs is_cut (at + 1) bs else with_byte at b (runs is_cut (at + 1) bs)

-- whether a list has members
abbrev pub is_filled : {X : Type 0} → List X → Bool
is_filled [] = false
is_filled (x ∷ xs) = true

-- the runs that have bytes
abbrev pub filled : List Run → List Run
filled rs = filter (λ r. is_filled r.bytes) rs

-- The words of a line: from the first '#' on it is a comment, and before that the words are the runs
-- of bytes between blanks.
abbrev pub words_of : Run → List Run
words_of line = filled (runs is_blank line.start (before_first is_comment_mark line.bytes))

-- a line by its number and its words
pub record WordLine : Type 0 where
  pub number : ℕ
  pub words : List Run

-- these lines, numbered from a number on, but for those without a word
abbrev pub lines_from : ℕ → List Run → List WordLine
lines_from number lines =
    filter (λ line. is_filled line.words) (map (λ line. record { number = line.0; words = words_of line.1 }) (enumerate_from number lines))

-- The lines of a text that have a word. Lines are cut at LF and numbered from 1.
abbrev pub word_lines : List ℕ → List WordLine
word_lines text = lines_from 1 (runs is_line_feed 0 text)

-- the number of a line, with the bytes of its words
abbrev pub plain_line : WordLine → ℕ × List (List ℕ)
plain_line line = (line.number, map (λ word. word.bytes) line.words)

-- the lines of a text that have a word, without the places of their words
abbrev pub lines_of : List ℕ → List (ℕ × List (List ℕ))
lines_of text = map plain_line (word_lines text)
