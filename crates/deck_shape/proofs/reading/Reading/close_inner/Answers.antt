use Rattle.std.proofs.Common.{◌∙◌, ap, map, reverse, sym}
use Rattle.std.proofs.lemmas.Result.{IfOk-weaker}
use Rattle.deck_shape.proofs.OpenBlocks.{filled, innermost_first, variant_left}
use Rattle.deck_shape.specs.Blocks.{block_at}
use Rattle.deck_shape.specs.Reading.{after_inner_block}
use Rattle.deck_shape.specs.Views.{reading_at}
use Rattle.deck_shape.proofs.reading.Reading.close_inner.Goals as goal

pub returns-else-is_empty : goal.returns-else-is_empty
returns-else-is_empty c =
    let others = c.pop.new.self.items in
    IfOk-weaker c.close_variant.result _ _
    (λ reading is text.
    is text
    ∙ variant_left c.args.end_line (block_at text c.in-Some.outer) (reverse (map (block_at text) others)) (reading_at text c.args.self)
    (filled text c.pop.new.self (sym c.is_empty.ensures ∙ c.if-is_empty.false))
    ∙ ap (λ around. after_inner_block c.args.end_line around (reading_at text c.args.self))
    (sym (ap (λ blocks. reverse (map (block_at text) blocks)) c.in-Some.ensures.items ∙ innermost_first text others c.in-Some.outer)))
    c.close_variant.ensures
