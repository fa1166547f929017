-- What is kept of the rows of sites, to look up the row of a site. Not part of what is promised: no public contract cites this.
use Rattle.std.specs.Prelude.{ℕ, ◌≡◌, List, Option, None, Some, is_some}
use Rattle.std.specs.BTreeMap.{BTreeMap}
use Rattle.std.specs.BTreeMap as tree
use Rattle.std.specs.BTreeSet.{BTreeSet}
use Rattle.std.specs.BTreeSet as sorted
use Rattle.std.specs.List.Sorted.{IsStrictlyIncreasing}
use Rattle.std.specs.Ordering.{nat_cmp}
use Rattle.lattice_core.specs.SiteList.{is_listed}
use Rattle.site_rows.specs.RowFaults.{has_bad_site}
use Rattle.site_rows.specs.SiteRows.{SiteRow, row_for}
use Rattle.site_rows.specs.declared.index.RowNeighbours.{RowNeighbours}

-- what is kept of a row: whether it names what is no site, and its neighbours, rising
pub record Keeps (sites : Option ℕ) (kept : RowNeighbours) (row : SiteRow) : Type 0 where
  pub bad : kept.has_bad_site ≡ has_bad_site sites row
  pub rising : IsStrictlyIncreasing kept.neighbours.items
  pub same : (s : ℕ) → is_listed kept.neighbours.items s ≡ is_listed row.neighbours s

-- something is kept where there is a row
abbrev pub KeepsFound : Option ℕ → Option RowNeighbours → Option SiteRow → Type 0
KeepsFound sites None None = Unit {0}
KeepsFound sites None (Some row) = ⊥
KeepsFound sites (Some kept) None = ⊥
KeepsFound sites (Some kept) (Some row) = Keeps sites kept row

-- of each site its first row is kept
abbrev pub IsIndexOf : Option ℕ → List SiteRow → BTreeMap ℕ RowNeighbours → Type 0
IsIndexOf sites rows index = (q : ℕ) → KeepsFound sites (tree.get nat_cmp index q) (row_for q rows)

-- the sites that have a row
abbrev pub HasSitesOf : List SiteRow → BTreeSet ℕ → Type 0
HasSitesOf rows seen = (q : ℕ) → sorted.contains nat_cmp seen q ≡ is_some (row_for q rows)
