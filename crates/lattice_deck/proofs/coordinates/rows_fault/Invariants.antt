use Rattle.std.proofs.Common.{◌≡◌, drop, map}
use Rattle.dec_text.specs.Spans.{line_at}
use Rattle.deck_values.specs.Readings.{least}
use Rattle.deck_words.specs.Faults.{earliest}
use Rattle.lattice_deck.specs.Coordinates.{row_fault}
use Rattle.lattice_deck.proofs.coordinates.rows_fault.Given as goal

-- the earliest fault so far, and of what is left, is that of all
abbrev pub invariant-loop-row : goal.invariant-loop-row
invariant-loop-row l =
    earliest l.fault (least (map row_fault (map (line_at l.bytes) (drop l.row-index l.rows)))) ≡ least (map row_fault (map (line_at l.bytes) l.rows))
