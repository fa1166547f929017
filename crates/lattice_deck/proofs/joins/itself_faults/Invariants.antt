use Rattle.std.proofs.Common.{◌≡◌, drop, map}
use Rattle.deck_values.specs.Readings.{least}
use Rattle.deck_words.specs.Faults.{earliest}
use Rattle.lattice_deck.specs.Joins.{itself_fault}
use Rattle.lattice_deck.proofs.joins.itself_faults.Given as goal

-- the earliest fault so far, and of what is left, is that of all
abbrev pub invariant-loop-row : goal.invariant-loop-row
invariant-loop-row l = earliest l.fault (least (map (itself_fault l.repeats) (drop l.row-index l.rows))) ≡ least (map (itself_fault l.repeats) l.rows)
