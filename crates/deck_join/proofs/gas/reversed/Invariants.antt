use Rattle.std.proofs.Common.{◌≡◌, ◌++◌, drop}
use Rattle.deck_join.specs.Gas.{reversed}
use Rattle.deck_join.proofs.gas.reversed.Given as goal

-- the changes so far, and those that are left, are all of them
abbrev pub invariant-loop-change : goal.invariant-loop-change
invariant-loop-change l = l.all.items ++ reversed (drop l.change-index l.changes) ≡ reversed l.changes
