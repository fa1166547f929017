use Rattle.std.proofs.Common.{◌≡◌, ◌++◌, drop, map}
use Rattle.dec_text.specs.Spans.{line_at}
use Rattle.deck_values.specs.Readings.{least_fault, values_of}
use Rattle.deck_words.specs.Faults.{earliest}
use Rattle.lattice_deck.specs.Ends.{AreEnds}
use Rattle.lattice_deck.specs.Joins.{join_row}
use Rattle.lattice_deck.proofs.joins.read_joins.Given as goal

-- what is read so far, and what is left, is all
abbrev pub invariant-loop-row : goal.invariant-loop-row
invariant-loop-row l = record {
  values : l.read.values.items ++ values_of (map (join_row l.sites) (map (line_at l.bytes) (drop l.row-index l.rows)))
      ≡ values_of (map (join_row l.sites) (map (line_at l.bytes) l.rows));
  fault : earliest l.read.fault (least_fault (map (join_row l.sites) (map (line_at l.bytes) (drop l.row-index l.rows))))
      ≡ least_fault (map (join_row l.sites) (map (line_at l.bytes) l.rows));
  ends : AreEnds l.sites l.read.values.items;
}
