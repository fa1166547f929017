use Rattle.std.proofs.Common.{◌∙◌, ap, sym}
use Rattle.std.specs.Option.{option_copied}
use Rattle.dec_text.specs.Spans.{line_at}
use Rattle.deck_shape.proofs.RisingKinds.{rule_kind_least}
use Rattle.deck_shape.specs.Views.{reading_at}
use Rattle.deck_shape.proofs.check.fault_at.Goals as goal

pub returns-in-Some : goal.returns-in-Some
returns-in-Some c =
    let text = c.args.bytes.now in
    c.rule_fault.ensures
    ∙ rule_kind_least (reading_at text c.args.reading.now) (line_at text c.args.line.now) c.in-Some.rule.now
    (sym c.is_row.ensures ∙ c.if-is_row.false)
    (sym c.rule_at.ensures ∙ ap option_copied c.in-Some.is)
