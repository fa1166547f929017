-- The rows of an explicit lattice, put at their sites. Not part of what is promised: no public contract cites this.
use Rattle.std.specs.Prelude.{ℕ, ◌≡◌, ◌≤◌, All, List, length, map}
use Rattle.std.specs.List.{range_with_len}
use Rattle.std.specs.declared.alloc.Global.{Global}
use Rattle.std.specs.declared.vec.Vec.{Vec}
use Rattle.kmc_base.specs.declared.ids.SiteId.{SiteId}
use Rattle.lattice_core.specs.SiteList.{number_lists}
use Rattle.site_rows.specs.Listed.{neighbours_at, type_at}
use Rattle.site_rows.specs.SiteRows.{SiteRow}

-- the number of a site, from 1
abbrev pub IsSite : ℕ → ℕ → Type 0
IsSite sites n = (1 ≤ n) × (n ≤ sites)

-- a row names only sites
pub record NamesSites (sites : ℕ) (row : SiteRow) : Type 0 where
  pub site : IsSite sites row.site
  pub neighbours : All (IsSite sites) row.neighbours

-- the types of all sites, by these rows
abbrev pub AreTypes : List (List ℕ) → List SiteRow → List ℕ → Type 0
AreTypes names rows types = types ≡ map (type_at names rows) (range_with_len 0 (length types))

-- and their neighbours
abbrev pub AreNeighbours : List SiteRow → List (Vec SiteId Global) → Type 0
AreNeighbours rows lists = number_lists lists ≡ map (neighbours_at rows) (range_with_len 0 (length lists))
