use Rattle.std.proofs.Common.{◌≡◌, drop}
use Rattle.pattern_types.specs.Wants.{same_dentate, some_two}
use Rattle.pattern_types.proofs.wanted.names_dentate_twice.Given as goal

abbrev pub invariant-loop-i : goal.invariant-loop-i
invariant-loop-i l = some_two same_dentate (drop l.i l.wanted) ≡ some_two same_dentate l.wanted
