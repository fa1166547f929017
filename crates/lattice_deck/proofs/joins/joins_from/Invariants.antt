use Rattle.std.proofs.Common.{◌≡◌, ◌++◌, All, drop, map}
use Rattle.lattice_cell.specs.Cells.{IsInCell}
use Rattle.lattice_deck.specs.Ends.{AreEnds}
use Rattle.lattice_deck.specs.Joins.{join_from}
use Rattle.std.proofs.Common.{Some}
use Rattle.lattice_deck.proofs.joins.joins_from.Given as goal

-- the joins so far, and those of the rows that are left, are those of all
abbrev pub invariant-loop-row : goal.invariant-loop-row
invariant-loop-row l = record {
  value : l.joins.items ++ map join_from (drop l.row-index l.rows) ≡ map join_from l.rows;
  ends : All (IsInCell l.sites) l.joins.items;
  left : AreEnds (Some l.sites) (drop l.row-index l.rows);
}
