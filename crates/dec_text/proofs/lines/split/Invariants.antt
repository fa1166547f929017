use Rattle.std.proofs.Common.{◌≡◌, ◌≤◌, ◌+◌, ◌++◌, All, map, length}
use Rattle.dec_text.specs.Lines.{word_lines}
use Rattle.dec_text.specs.Places.{lines_below}
use Rattle.dec_text.specs.Spans.{AreWithin, line_at}
use Rattle.dec_text.proofs.lines.split.Given as goal

abbrev pub invariant-loop-lines : goal.invariant-loop-lines
invariant-loop-lines l = record {
  lines : map (line_at l.bytes) l.lines.items ++ lines_below l.bytes l.place ≡ word_lines l.bytes;
  within : All (AreWithin l.bytes) l.lines.items;
  counted : l.place.number ≤ l.place.start + 1;
}

abbrev pub decreases-loop-lines : goal.decreases-loop-lines
decreases-loop-lines l = length (lines_below l.bytes l.place)
