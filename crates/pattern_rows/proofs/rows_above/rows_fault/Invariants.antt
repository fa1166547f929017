use Rattle.std.proofs.Common.{◌≡◌, [], drop, map, take}
use Rattle.deck_words.specs.Faults.{earliest}
use Rattle.pattern_rows.specs.RowsAbove.{IsIndexOf}
use Rattle.pattern_rows.specs.States.{fault_below}
use Rattle.pattern_rows.specs.Views.{state_at}
use Rattle.pattern_rows.proofs.rows_above.rows_fault.Given as goal

-- the rows so far are kept, and their fault and that of the rows that are left are the fault of all
abbrev pub invariant-loop-row : goal.invariant-loop-row
invariant-loop-row l = record {
  index : IsIndexOf l.bytes (map (state_at l.bytes) (take l.row-index l.rows)) l.above;
  left : earliest l.fault (fault_below (map (state_at l.bytes) (take l.row-index l.rows)) (map (state_at l.bytes) (drop l.row-index l.rows)))
      ≡ fault_below [] (map (state_at l.bytes) l.rows);
}
