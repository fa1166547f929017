use Rattle.std.proofs.Common.{◌≡◌, ◌+◌, ◌-◌, map, not}
use Rattle.std.specs.List.{list_any, range_with_len}
use Rattle.pattern_names.specs.Sides.{lacks_one, wants_dentate_of}
use Rattle.pattern_rows.specs.Views.{state_at}
use Rattle.pattern_names.proofs.sides.lacks_one.Given as goal

-- what the dentates that are left answer is what all do
abbrev pub invariant-loop-place : goal.invariant-loop-place
invariant-loop-place l =
    let rows = map (state_at l.bytes) l.rows in
    list_any (λ d. not (list_any (wants_dentate_of l.entity l.word d) rows)) (range_with_len (l.place + 1) (l.dentates - l.place))
    ≡ lacks_one rows l.entity l.word l.dentates
