use Rattle.std.proofs.Common.{◌∙◌, ◌&&◌, Bool, ap, map, sym}
use Rattle.std.specs.List.{list_any}
use Rattle.deck_shape.specs.Blocks.{block_at, item_at}
use Rattle.deck_shape.specs.LineFaults.{is_missing, variants_within}
use Rattle.deck_shape.specs.Reading.{block_of}
use Rattle.deck_shape.specs.Views.{reading_at}
use Rattle.deck_words.specs.Tables.{rules_of}
use Rattle.deck_shape.proofs.check.misses_word.Goals as goal

pub returns-then-closes : goal.returns-then-closes
returns-then-closes c =
    let text = c.args.bytes.now in
    let so_far = reading_at text c.args.reading.now in
    let form = block_of so_far in
    let variants = variants_within so_far.around so_far.variants in
    let items = c.as_slice-items.result.now in
    c.any_is_missing.ensures
    ∙ ap (λ f. list_any (is_missing (map (block_at text) c.variants.result.now) (map (item_at text) items)) (rules_of f)) (c.form.ensures text)
    ∙ ap (λ vs. list_any (is_missing vs (map (item_at text) items)) (rules_of form)) (c.variants.ensures text)
    ∙ ap (λ is. list_any (is_missing variants (map (item_at text) is)) (rules_of form)) c.as_slice-items.ensures
    ∙ ap (λ (b : Bool). b && list_any (is_missing variants so_far.block.items) (rules_of form)) (sym c.if-closes.true ∙ c.closes.ensures)
