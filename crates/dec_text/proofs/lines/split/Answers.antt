use Rattle.std.proofs.Common.{◌≡◌, ◌∙◌, ap, [], map}
use Rattle.std.proofs.lemmas.List.{append-nil}
use Rattle.dec_text.proofs.Spans.{map-plain_line}
use Rattle.dec_text.specs.Lines.{plain_line}
use Rattle.dec_text.specs.Places.{lines_below}
use Rattle.dec_text.proofs.lines.split.Goals as goal

pub returns-clause-words : goal.returns-clause-words
returns-clause-words c =
    let none : lines_below c.args.bytes.now c.loop-lines.place ≡ [] =
    (rw c.in_default.is at c.in_ok-line.ensures.line).0 in
    map-plain_line c.args.bytes.now c.loop-lines.lines.items ∙ ap (map plain_line) (rw (none, append-nil) at c.loop-lines.invariant.lines)
