use Rattle.std.proofs.Common.{◌≡◌, drop, map}
use Rattle.std.specs.List.{list_any}
use Rattle.pattern_names.specs.Sides.{is_faulty_row}
use Rattle.pattern_rows.specs.Views.{state_at}
use Rattle.pattern_names.proofs.sides.has_faulty_row.Given as goal

-- what the rows that are left answer is what all do
abbrev pub invariant-loop-row : goal.invariant-loop-row
invariant-loop-row l =
    list_any (is_faulty_row l.book l.entity) (map (state_at l.bytes) (drop l.row-index l.rows))
    ≡ list_any (is_faulty_row l.book l.entity) (map (state_at l.bytes) l.rows)
