use Rattle.std.proofs.Common.{◌≡◌, drop, false, map}
use Rattle.std.specs.List.{list_any}
use Rattle.std.specs.Option.{option_map_or}
use Rattle.pattern_names.specs.Sides.{lacks_dentate}
use Rattle.pattern_rows.specs.States.{StateWords}
use Rattle.pattern_rows.specs.Views.{state_at}
use Rattle.pattern_names.proofs.sides.are_incomplete.Given as goal

-- what the rows that are left answer is what all do
abbrev pub invariant-loop-row : goal.invariant-loop-row
invariant-loop-row l =
    let rows = map (state_at l.bytes) l.rows in
    list_any (λ (row : StateWords). option_map_or (lacks_dentate l.book rows) row false) (map (state_at l.bytes) (drop l.row-index l.rows))
    ≡ list_any (λ (row : StateWords). option_map_or (lacks_dentate l.book rows) row false) rows
