use Rattle.std.proofs.Common.{◌∙◌, ◌+◌, ap, arith}
use Rattle.deck_shape.proofs.LineCounts.{ended, unended}
use Rattle.deck_shape.proofs.reader.line_count.Goals as goal

pub returns-in-len1-up-clause-value : goal.returns-in-len1-up-clause-value
returns-in-len1-up-clause-value c =
    ap (λ n. n + 1) c.line_feed_count-ended.ensures ∙ unended 0 c.args.bytes.now (omega arith) c.if-last-ne10.true

pub returns-in_default-2-clause-value : goal.returns-in_default-2-clause-value
returns-in_default-2-clause-value c = omega (arith, c.line_feed_count-ended.ensures, ended 0 c.args.bytes.now (omega arith) c.if-last-ne10.false)
