use Rattle.std.proofs.Common.{◌≡◌, ◌∙◌, ap, sym, false}
use Rattle.dec_text.specs.Spans.{line_at}
use Rattle.deck_shape.proofs.WordRules.{word_rule}
use Rattle.deck_shape.specs.LineWords.{begins_row, head_of, is_row}
use Rattle.deck_words.specs.Tables.{rule_for}
use Rattle.deck_shape.specs.Views.{reading_at}
use Rattle.deck_shape.proofs.check.rule_at.Goals as goal

pub returns-else-begins_row : goal.returns-else-begins_row
returns-else-begins_row c =
    let text = c.args.bytes.now in
    let line = line_at text c.args.line.now in
    let word : c.bytes-word.result.now ≡ head_of line = c.bytes-word.ensures ∙ ap (λ r. r.bytes) (c.head.ensures text) in
    let no_row : is_row line ≡ false = ap begins_row (sym word) ∙ sym c.begins_row.ensures ∙ c.if-begins_row.false in
    c.rule_for.ensures
    ∙ ap (rule_for c.form.result) word
    ∙ ap (λ form. rule_for form (head_of line)) (c.form.ensures text)
    ∙ sym (word_rule (reading_at text c.args.reading.now) line no_row)
