use Rattle.std.proofs.Common.{◌≡◌, ◌++◌, length}
use Rattle.mechanism_deck.specs.Changes.{pairs_of}
use Rattle.mechanism_deck.proofs.changes.pairs_of.Given as goal

-- the pairs so far, and those of the words that are left, are all of them
abbrev pub invariant-loop-rest : goal.invariant-loop-rest
invariant-loop-rest l = l.pairs.items ++ pairs_of l.rest ≡ pairs_of l.words

abbrev pub decreases-loop-rest : goal.decreases-loop-rest
decreases-loop-rest l = length l.rest
