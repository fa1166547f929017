use Rattle.std.proofs.Common.{◌≡◌, drop, map}
use Rattle.deck_join.specs.Gas.{change_in}
use Rattle.deck_values.proofs.FaultLists.{joined}
use Rattle.deck_words.specs.Faults.{all_of, value_map}
use Rattle.mechanism_deck.specs.Views.{change_at}
use Rattle.deck_join.proofs.gas.changes_in.Given as goal

-- the changes so far, and those that are left, are all of them
abbrev pub invariant-loop-one : goal.invariant-loop-one
invariant-loop-one l =
    joined (value_map (λ v. v.items) l.changes) (all_of (map (change_in l.book) (map (change_at l.bytes) (drop l.one-index l.gas))))
    ≡ all_of (map (change_in l.book) (map (change_at l.bytes) l.gas))
