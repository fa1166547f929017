use Rattle.std.proofs.Common.{ℕ, List, map, take}
use Rattle.site_rows.specs.ReadRows.{row_at}
use Rattle.site_rows.specs.RowLookup.{IsIndexOf}
use Rattle.site_rows.proofs.index.index_rows.Given as goal

-- the rows so far are kept
abbrev pub invariant-loop-row : goal.invariant-loop-row
invariant-loop-row l = (text : List ℕ) → IsIndexOf l.sites (map (row_at text) (take l.row-index l.rows)) l.index
