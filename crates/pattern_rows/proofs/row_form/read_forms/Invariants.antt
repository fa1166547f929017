use Rattle.std.proofs.Common.{◌≡◌, ◌++◌, drop, map}
use Rattle.dec_text.specs.Spans.{line_at}
use Rattle.deck_values.specs.Readings.{least_fault, values_of}
use Rattle.deck_words.specs.Faults.{earliest}
use Rattle.pattern_rows.specs.States.{state_row}
use Rattle.pattern_rows.specs.Views.{state_at}
use Rattle.pattern_rows.proofs.row_form.read_forms.Given as goal

-- what is read so far, and what is left, is all
abbrev pub invariant-loop-line : goal.invariant-loop-line
invariant-loop-line l = record {
  values : map (state_at l.bytes) l.read.values.items ++ values_of (map (state_row l.takes_any) (map (line_at l.bytes) (drop l.line-index l.lines)))
      ≡ values_of (map (state_row l.takes_any) (map (line_at l.bytes) l.lines));
  fault : earliest l.read.fault (least_fault (map (state_row l.takes_any) (map (line_at l.bytes) (drop l.line-index l.lines))))
      ≡ least_fault (map (state_row l.takes_any) (map (line_at l.bytes) l.lines));
}
