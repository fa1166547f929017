-- the words of a line by their places, as names
use Rattle.std.proofs.Common.{◌≡◌, ◌∙◌, ℕ, List, map, sym}
use Rattle.std.proofs.lemmas.Simd.{map-map}
use Rattle.dec_text.specs.Spans.{run_at}
use Rattle.dec_text.specs.declared.lines.Span.{Span}
use Rattle.deck_shape.specs.Names.{name_at, name_of, on_line}

pub names_at : (text : List ℕ) (line : ℕ) (words : List Span)
    → map (name_at text) (map (name_of line) words) ≡ map (on_line line) (map (run_at text) words)
names_at text line words = map-map (name_at text) (name_of line) words ∙ sym (map-map (on_line line) (run_at text) words)
