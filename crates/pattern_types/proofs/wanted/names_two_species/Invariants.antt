use Rattle.std.proofs.Common.{◌≡◌, drop}
use Rattle.pattern_types.specs.Wants.{different_species, some_two}
use Rattle.pattern_types.proofs.wanted.names_two_species.Given as goal

abbrev pub invariant-loop-i : goal.invariant-loop-i
invariant-loop-i l = some_two different_species (drop l.i l.wanted) ≡ some_two different_species l.wanted
