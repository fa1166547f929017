-- The words and lines of a text, by their places.
use Rattle.std.specs.Prelude.{ℕ, ◌<◌, ◌≤◌, List, length, map, All}
use Rattle.std.specs.List.{slice_range}
use Rattle.dec_text.specs.Lines.{Run, WordLine}
use Rattle.dec_text.specs.declared.lines.Line.{Line}
use Rattle.dec_text.specs.declared.lines.Span.{Span}

-- the bytes that a span stands for
abbrev pub bytes_at : List ℕ → Span → List ℕ
bytes_at text span = slice_range text span.start span.end

-- the word that a span stands for
abbrev pub run_at : List ℕ → Span → Run
run_at text span = record { start = span.start; bytes = bytes_at text span }

-- the line that a line of spans stands for
abbrev pub line_at : List ℕ → Line → WordLine
line_at text line = record { number = line.number; words = map (run_at text) line.words }

-- the number of a line of spans, with the bytes of its words
abbrev pub plain_line_at : List ℕ → Line → ℕ × List (List ℕ)
plain_line_at text line = (line.number, map (bytes_at text) line.words)

-- a span has a byte, and lies within the text
pub record IsWithin (text : List ℕ) (span : Span) : Type 0 where
  pub filled : span.start < span.end
  pub inside : span.end ≤ length text

-- so do the words of a line
abbrev pub AreWithin : List ℕ → Line → Type 0
AreWithin text line = All (IsWithin text) line.words
