use Rattle.std.proofs.Common.{◌≡◌, ℕ, List, Option, drop}
use Rattle.std.specs.List.{list_any}
use Rattle.site_rows.specs.RowFaults.{is_one_sided}
use Rattle.site_rows.specs.RowLookup.{IsIndexOf}
use Rattle.site_rows.specs.SiteRows.{SiteRow}
use Rattle.site_rows.proofs.faults.any_one_sided.Given as goal

-- what the neighbours that are left answer is what all do
abbrev pub invariant-loop-neighbour : goal.invariant-loop-neighbour
invariant-loop-neighbour l =
    (sites : Option ℕ) (all : List SiteRow) → IsIndexOf sites all l.index
    → list_any (is_one_sided sites all l.site) (drop l.neighbour-index l.neighbours) ≡ list_any (is_one_sided sites all l.site) l.neighbours
