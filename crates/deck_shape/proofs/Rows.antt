-- a row more of the last word line
use Rattle.std.proofs.Common.{◌≡◌, ℕ, List, [], ◌∷◌, ◌++◌, map, refl, ap, sym, ◌∙◌}
use Rattle.std.proofs.lemmas.List.{map-append}
use Rattle.dec_text.specs.Lines.{WordLine}
use Rattle.dec_text.specs.Spans.{line_at}
use Rattle.dec_text.specs.declared.lines.Line.{Line}
use Rattle.deck_shape.specs.Blocks.{ItemLines, item_at, with_row}
use Rattle.deck_shape.specs.declared.shape.Item.{Item}

with_row-last : (row : WordLine) (items : List ItemLines) (item : ItemLines)
    → with_row row (items ++ item ∷ []) ≡ items ++ record { line = item.line; rows = item.rows ++ row ∷ [] } ∷ []
with_row-last row [] item = refl
with_row-last row (x ∷ []) item = refl
with_row-last row (x ∷ y ∷ ys) item = ap (λ rest. x ∷ rest) (with_row-last row (y ∷ ys) item)

-- a row of a line at the end of those of the last item
pub row_pushed : (text : List ℕ) (row : Line) (before : List Item) (item : Item)
    → map (item_at text) (before ++ record { line = item.line; rows = item.rows ++ row ∷ [] } ∷ [])
    ≡ with_row (line_at text row) (map (item_at text) (before ++ item ∷ []))
row_pushed text row before item =
    map-append (item_at text) before (record { line = item.line; rows = item.rows ++ row ∷ [] } ∷ [])
    ∙ ap (λ rows. map (item_at text) before ++ record { line = line_at text item.line; rows = rows } ∷ [])
    (map-append (line_at text) item.rows (row ∷ []))
    ∙ sym (with_row-last (line_at text row) (map (item_at text) before) (item_at text item))
    ∙ ap (with_row (line_at text row)) (sym (map-append (item_at text) before (item ∷ [])))
