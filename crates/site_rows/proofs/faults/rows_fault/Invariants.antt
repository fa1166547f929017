use Rattle.std.proofs.Common.{◌≡◌, ℕ, List, drop, map, take}
use Rattle.deck_words.specs.Faults.{earliest}
use Rattle.site_rows.specs.ReadRows.{row_at}
use Rattle.site_rows.specs.RowFaults.{fault_below, rows_fault}
use Rattle.site_rows.specs.RowLookup.{HasSitesOf}
use Rattle.site_rows.proofs.faults.rows_fault.Given as goal

-- the sites of the rows above are known, and the earliest fault so far and of the rows that are left is that of all
abbrev pub invariant-loop-row : goal.invariant-loop-row
invariant-loop-row l = record {
  above : (text : List ℕ) → HasSitesOf (map (row_at text) (take l.row-index l.rows)) l.above;
  rest : (text : List ℕ) → earliest l.fault
      (fault_below l.sites (map (row_at text) l.rows) (map (row_at text) (take l.row-index l.rows)) (map (row_at text) (drop l.row-index l.rows)))
      ≡ rows_fault l.sites (map (row_at text) l.rows);
}
