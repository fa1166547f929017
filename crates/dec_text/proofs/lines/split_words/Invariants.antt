use Rattle.std.proofs.Common.{◌≡◌, ◌-◌, ◌++◌, All, map}
use Rattle.std.specs.List.{slice_range}
use Rattle.dec_text.specs.Bytes.{is_blank}
use Rattle.dec_text.specs.Lines.{filled, runs}
use Rattle.dec_text.specs.Spans.{IsWithin, run_at}
use Rattle.dec_text.proofs.lines.split_words.Given as goal

abbrev pub invariant-loop-at : goal.invariant-loop-at
invariant-loop-at l = record {
  words : map (run_at l.bytes) l.words.items ++ filled (runs is_blank l.at (slice_range l.bytes l.at l.end))
      ≡ filled (runs is_blank l.start (slice_range l.bytes l.start l.end));
  within : All (IsWithin l.bytes) l.words.items;
}

abbrev pub decreases-loop-at : goal.decreases-loop-at
decreases-loop-at l = l.end - l.at
