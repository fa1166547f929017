-- words and lines by their places in a text
use Rattle.std.proofs.Common.{◌≡◌, ℕ, List, [], ◌∷◌, ◌++◌, map, refl, sym, append_assoc}
use Rattle.std.specs.List.{slice_range}
use Rattle.std.proofs.lemmas.List.{map_push}
use Rattle.std.proofs.lemmas.Simd.{map-map}
use Rattle.dec_text.specs.Lines.{Run, plain_line, run}
use Rattle.dec_text.specs.Spans.{bytes_at, line_at, plain_line_at, run_at}
use Rattle.dec_text.specs.declared.lines.Line.{Line}
use Rattle.dec_text.specs.declared.lines.Span.{Span}

-- a span that was found and those that are still to come
pub word_pushed : (text : List ℕ) (words : List Span) (at stop : ℕ) (left rest whole : List Run)
    → left ≡ run at (slice_range text at stop) ∷ rest → map (run_at text) words ++ left ≡ whole
    → map (run_at text) (words ++ record { start = at; end = stop } ∷ []) ++ rest ≡ whole
word_pushed text words at stop left rest whole is_left before =
    rw (map_push (run_at text) words (record { start = at; end = stop }), append_assoc, ← is_left) before

-- the bytes of words are those of the words with their places
pub map-bytes_at : (text : List ℕ) (spans : List Span) → map (bytes_at text) spans ≡ map (λ word. word.bytes) (map (run_at text) spans)
map-bytes_at text spans = sym (map-map (λ word. word.bytes) (run_at text) spans)

-- the lines without their places
pub map-plain_line : (text : List ℕ) (lines : List Line) → map (plain_line_at text) lines ≡ map plain_line (map (line_at text) lines)
map-plain_line text [] = refl
map-plain_line text (l ∷ ls) = rw (map-bytes_at text l.words, map-plain_line text ls) refl
