use Rattle.std.proofs.Common.{◌∙◌, ap, map, sym}
use Rattle.dec_text.specs.Spans.{line_at}
use Rattle.deck_shape.proofs.FirstKinds.{fourth_kind, no_kind}
use Rattle.deck_shape.specs.Blocks.{item_at}
use Rattle.deck_shape.specs.LineFaults.{is_repeated, names_no_lattice}
use Rattle.deck_shape.proofs.check.rule_fault.Goals as goal

pub returns-then-misses_word : goal.returns-then-misses_word
returns-then-misses_word c =
    let text = c.args.bytes.now in
    let rule = c.args.rule.now in
    sym (fourth_kind _ _ _ _ (names_no_lattice (line_at text c.args.line.now) rule) _ _ _ _ _
    (sym c.is_unsupported.ensures ∙ c.if-is_unsupported.false)
    (sym (c.has_other_count.ensures text) ∙ c.if-has_other_count.false)
    (ap (λ items. is_repeated (map (item_at text) items) rule) (sym c.as_slice.ensures) ∙ sym c.is_repeated.ensures ∙ c.if-is_repeated.false)
    (sym c.misses_word.ensures ∙ c.if-misses_word.true))

pub returns : goal.returns
returns c =
    let text = c.args.bytes.now in
    let rule = c.args.rule.now in
    sym (no_kind _ _ _ _ _ _ _ _ _ _
    (sym c.is_unsupported.ensures ∙ c.if-is_unsupported.false)
    (sym (c.has_other_count.ensures text) ∙ c.if-has_other_count.false)
    (ap (λ items. is_repeated (map (item_at text) items) rule) (sym c.as_slice.ensures) ∙ sym c.is_repeated.ensures ∙ c.if-is_repeated.false)
    (sym c.misses_word.ensures ∙ c.if-misses_word.false)
    (sym c.names_no_lattice.ensures ∙ c.if-names_no_lattice.false))
