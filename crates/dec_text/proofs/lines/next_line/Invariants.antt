use Rattle.std.proofs.Common.{◌≡◌, ◌≤◌, ◌+◌, ◌-◌, length}
use Rattle.dec_text.specs.Places.{lines_below}
use Rattle.dec_text.proofs.lines.next_line.Given as goal

abbrev pub invariant-loop-at : goal.invariant-loop-at
invariant-loop-at l = record {
  place : l.place ≡ l.fn.place;
  left : lines_below l.bytes l.place ≡ lines_below l.bytes l.at;
  counted : l.at.number ≤ l.at.start + 1;
}

abbrev pub decreases-loop-at : goal.decreases-loop-at
decreases-loop-at l = length l.bytes - l.at.start
