use Rattle.std.proofs.Common.{◌≡◌, drop, map}
use Rattle.std.specs.List.{list_any}
use Rattle.pattern_names.specs.Sides.{wants_dentate_of}
use Rattle.pattern_rows.specs.Views.{state_at}
use Rattle.pattern_names.proofs.sides.has_dentate.Given as goal

-- what the rows that are left answer is what all do
abbrev pub invariant-loop-row : goal.invariant-loop-row
invariant-loop-row l =
    list_any (wants_dentate_of l.entity l.word l.dentate) (map (state_at l.bytes) (drop l.row-index l.rows))
    ≡ list_any (wants_dentate_of l.entity l.word l.dentate) (map (state_at l.bytes) l.rows)
