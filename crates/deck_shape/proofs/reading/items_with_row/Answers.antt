use Rattle.std.proofs.Common.{◌≡◌, [], ◌∷◌, ◌++◌, map, ap, sym, ◌∙◌}
use Rattle.dec_text.specs.Spans.{line_at}
use Rattle.deck_shape.proofs.Rows.{row_pushed}
use Rattle.deck_shape.specs.Blocks.{item_at, with_row}
use Rattle.deck_shape.specs.declared.shape.Item.{Item}
use Rattle.deck_shape.proofs.reading.items_with_row.Goals as goal

pub returns : goal.returns
returns c text =
    let item = c.in-Some.field-0 in
    let before = c.pop.new.self.items in
    let rows : c.new.result ≡ item.rows ++ c.args.row ∷ [] =
    c.new.ensures ∙ c.in_ok-push.ensures.items ∙ ap (λ rows. rows ++ c.args.row ∷ []) c.into_vec-rows.ensures in
    let with_rows = λ (rows : _). let new : Item = record { line = item.line; rows = rows } in before ++ new ∷ [] in
    ap (map (item_at text)) (c.in_ok-push-2.ensures.items ∙ ap with_rows rows)
    ∙ row_pushed text c.args.row before item
    ∙ ap (λ items. with_row (line_at text c.args.row) (map (item_at text) items)) (sym c.in-Some.ensures.items)
