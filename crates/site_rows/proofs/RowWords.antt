-- the words of a row, one by one
use Rattle.std.proofs.Common.{◌≡◌, sym, ap, ℕ, ◌≤◌, ◌<◌, List, [], ◌∷◌, drop, get_or, length, map, None, refl, arith}
use Rattle.std.specs.Result.{result_ok}
use Rattle.dec_text.proofs.Spans.{map-bytes_at}
use Rattle.dec_text.specs.Wholes.{whole_number}
use Rattle.dec_text.specs.Spans.{bytes_at, run_at}
use Rattle.dec_text.specs.declared.lines.Span.{Span}
use Rattle.site_rows.specs.SiteRows.{is_either_out_of_range, neighbours_of, row_made, row_of}

pub short_row : (text : List ℕ) (line : ℕ) (words : List Span) → length words < 5 → row_of line (map (run_at text) words) ≡ None
short_row text line [] short = refl
short_row text line (a ∷ []) short = refl
short_row text line (a ∷ x ∷ []) short = refl
short_row text line (a ∷ x ∷ y ∷ []) short = refl
short_row text line (a ∷ x ∷ y ∷ t ∷ []) short = refl
short_row text line (a ∷ x ∷ y ∷ t ∷ n ∷ words) short = absurd (omega arith)

pub long_row : (text : List ℕ) (line : ℕ) (words : List Span) (d : Span) → 5 ≤ length words
    → row_of line (map (run_at text) words)
    ≡ row_made line (run_at text (get_or words 3 d)) (result_ok (whole_number (bytes_at text (get_or words 0 d))))
    (is_either_out_of_range (bytes_at text (get_or words 1 d)) (bytes_at text (get_or words 2 d)))
    (neighbours_of (result_ok (whole_number (bytes_at text (get_or words 4 d)))) (map (bytes_at text) (drop 5 words)))
long_row text line [] d long = absurd (omega arith)
long_row text line (a ∷ []) d long = absurd (omega arith)
long_row text line (a ∷ x ∷ []) d long = absurd (omega arith)
long_row text line (a ∷ x ∷ y ∷ []) d long = absurd (omega arith)
long_row text line (a ∷ x ∷ y ∷ t ∷ []) d long = absurd (omega arith)
long_row text line (a ∷ x ∷ y ∷ t ∷ n ∷ words) d long =
    ap (λ ws. row_made line (run_at text t) (result_ok (whole_number (bytes_at text a)))
    (is_either_out_of_range (bytes_at text x) (bytes_at text y))
    (neighbours_of (result_ok (whole_number (bytes_at text n))) ws)) (sym (map-bytes_at text words))
