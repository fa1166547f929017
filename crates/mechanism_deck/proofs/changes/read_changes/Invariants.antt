use Rattle.std.proofs.Common.{◌≡◌, ◌++◌, drop, map}
use Rattle.deck_values.specs.Readings.{least_fault, values_of}
use Rattle.deck_words.specs.Faults.{earliest}
use Rattle.mechanism_deck.specs.Changes.{gas_change}
use Rattle.mechanism_deck.specs.Views.{change_at, pair_at}
use Rattle.mechanism_deck.proofs.changes.read_changes.Given as goal

-- what is read so far, and what is left, is all
abbrev pub invariant-loop-pair : goal.invariant-loop-pair
invariant-loop-pair l = record {
  changes : map (change_at l.bytes) l.read.values.items ++ values_of (map (gas_change l.line) (map (pair_at l.bytes) (drop l.pair-index l.pairs)))
      ≡ values_of (map (gas_change l.line) (map (pair_at l.bytes) l.pairs));
  fault : earliest l.read.fault (least_fault (map (gas_change l.line) (map (pair_at l.bytes) (drop l.pair-index l.pairs))))
      ≡ least_fault (map (gas_change l.line) (map (pair_at l.bytes) l.pairs));
}
