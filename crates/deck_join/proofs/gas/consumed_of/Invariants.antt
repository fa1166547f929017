use Rattle.std.proofs.Common.{◌≡◌, ◌++◌, drop}
use Rattle.deck_join.specs.Gas.{consumed_of}
use Rattle.deck_join.proofs.gas.consumed_of.Given as goal

-- the gas species so far, and those that are left, are all of them
abbrev pub invariant-loop-change : goal.invariant-loop-change
invariant-loop-change l =
    l.consumed.items ++ consumed_of l.fractions (drop l.change-index l.changes) ≡ consumed_of l.fractions l.changes
