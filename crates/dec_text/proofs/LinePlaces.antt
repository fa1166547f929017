-- the first line below a place
use Rattle.std.proofs.Common.{◌≡◌, ℕ, ◌+◌, ◌-◌, ◌<◌, ◌≤◌, List, [], ◌∷◌, length, map, refl, ap, sym, ◌∙◌, arith, cond}
use Rattle.std.specs.List.{position_or_len, slice_range}
use Rattle.dec_text.proofs.Runs.{next_run}
use Rattle.dec_text.specs.Bytes.{is_line_feed}
use Rattle.dec_text.specs.Lines.{Run, WordLine, is_filled, lines_from, run, words_of}
use Rattle.dec_text.specs.Places.{lines_below}
use Rattle.dec_text.specs.Spans.{line_at, run_at}
use Rattle.dec_text.specs.declared.lines.LinePlace.{LinePlace}
use Rattle.dec_text.specs.declared.lines.Span.{Span}

-- a place by its parts
abbrev place : ℕ → ℕ → LinePlace
place start number = record { start = start; number = number }

-- a line is in front of the others, but not one without words
abbrev with_line : ℕ → List Run → List WordLine → List WordLine
with_line number words rest = cond (is_filled words) (record { number = number; words = words } ∷ rest) rest

-- the line that begins at a place, and those below it
below_line : (text : List ℕ) (start number end : ℕ) (words : List Span) → start < length text
    → end ≡ start + position_or_len is_line_feed (slice_range text start (length text))
    → map (run_at text) words ≡ words_of (run start (slice_range text start end))
    → lines_below text (place start number) ≡ with_line number (map (run_at text) words) (lines_below text (place (end + 1) (number + 1)))
below_line text start number end words before is_end is_words =
    ap (lines_from number) (next_run is_line_feed text start (length text) end before (omega arith) is_end)
    ∙ ap (λ ws. with_line number ws (lines_below text (place (end + 1) (number + 1)))) (sym is_words)

-- a line that has words is the next
pub line_found : (text : List ℕ) (start number end : ℕ) (words : List Span) → start < length text
    → end ≡ start + position_or_len is_line_feed (slice_range text start (length text))
    → map (run_at text) words ≡ words_of (run start (slice_range text start end)) → (length words ≡ 0 → ⊥)
    → lines_below text (place start number)
    ≡ line_at text (record { number = number; words = words }) ∷ lines_below text (place (end + 1) (number + 1))
line_found text start number end [] before is_end is_words has = absurd (has refl)
line_found text start number end (w ∷ ws) before is_end is_words has = below_line text start number end (w ∷ ws) before is_end is_words

-- a line without words is none
pub line_passed : (text : List ℕ) (start number end : ℕ) (words : List Span) → start < length text
    → end ≡ start + position_or_len is_line_feed (slice_range text start (length text))
    → map (run_at text) words ≡ words_of (run start (slice_range text start end)) → length words ≡ 0
    → lines_below text (place start number) ≡ lines_below text (place (end + 1) (number + 1))
line_passed text start number end [] before is_end is_words none = below_line text start number end [] before is_end is_words
line_passed text start number end (w ∷ ws) before is_end is_words none = absurd (omega arith)

-- at the end of the text there is no line more
pub none_below : (text : List ℕ) (start number : ℕ) → length text ≤ start → lines_below text (place start number) ≡ []
none_below text start number past = let none : length text - start ≡ 0 = omega arith in rw none refl
