use Rattle.std.proofs.Common.{[], map, take}
use Rattle.site_rows.specs.Placing.{AreNeighbours, AreTypes}
use Rattle.site_rows.specs.ReadRows.{row_at}
use Rattle.site_rows.proofs.listed.place_rows.Given as goal

-- the rows so far are placed
abbrev pub invariant-loop-row : goal.invariant-loop-row
invariant-loop-row l = record {
  types : AreTypes l.index [] l.initial.types → AreTypes l.index (map (row_at l.bytes) (take l.row-index l.rows)) l.types;
  lists : AreNeighbours [] l.initial.lists → AreNeighbours (map (row_at l.bytes) (take l.row-index l.rows)) l.lists;
}
