use Rattle.std.proofs.Common.{◌∙◌, sym, false}
use Rattle.std.specs.Option.{option_map_or}
use Rattle.dec_text.specs.Spans.{line_at}
use Rattle.deck_shape.proofs.OpenBlocks.{not_alone}
use Rattle.deck_shape.specs.LineFaults.{closes}
use Rattle.deck_shape.specs.Reading.{rule_at}
use Rattle.deck_shape.specs.Views.{reading_at}
use Rattle.deck_shape.proofs.check.closes_file.Goals as goal

pub returns-else-is_empty : goal.returns-else-is_empty
returns-else-is_empty c =
    let text = c.args.bytes.now in
    c.if-is_empty.false
    ∙ sym (not_alone text c.args.reading.now.below c.args.reading.now.around
    (option_map_or (λ rule. closes rule.role) (rule_at (reading_at text c.args.reading.now) (line_at text c.args.line.now)) false)
    (sym c.is_empty.ensures ∙ c.if-is_empty.false))
