use Rattle.std.proofs.Common.{◌≡◌, false, None, [], ◌∷◌, ap, sym, ◌∙◌}
use Rattle.dec_text.specs.Places.{lines_below}
use Rattle.dec_text.specs.Spans.{line_at}
use Rattle.deck_shape.proofs.PassedLines.{passed_line}
use Rattle.deck_shape.specs.LineFaults.{closes_file, fault_at, line_count, read_below}
use Rattle.deck_shape.specs.Views.{reading_at}
use Rattle.deck_shape.proofs.reader.read_file.Goals as goal

pub loop-reading-preserved : goal.loop-reading-preserved
loop-reading-preserved c =
    let text = c.args.bytes.now in
    let so_far = reading_at text c.loop-reading.reading in
    let line = line_at text c.in-Some.line in
    let rest = lines_below text c.next_line.new.place in
    let lines : lines_below text c.loop-reading.place ≡ line ∷ rest = rw c.in-Some.is at c.in_ok-line.ensures.line in
    let none : fault_at so_far line ≡ None = sym c.fault_at.ensures ∙ c.in_default-fault_at.is in
    let goes_on : closes_file so_far line ≡ false = sym c.closes_file.ensures ∙ c.if-closes_file.false in
    record {
      rest = ap (λ s. read_below s [] rest (line_count text)) c.in_ok-reading.ensures
          ∙ sym (passed_line so_far line rest (line_count text) none goes_on)
          ∙ ap (λ ls. read_below so_far [] ls (line_count text)) (sym lines)
          ∙ c.loop-reading.invariant.rest;
      counted = c.in_ok-line.ensures.counted;
    }
