-- The lattice that rows of sites give.
use Rattle.std.specs.Prelude.{ℕ, ◌+◌, ◌-◌, List, [], map}
use Rattle.std.specs.List.{range_with_len}
use Rattle.std.specs.Option.{option_map_or}
use Rattle.lattice_core.specs.Fault.{lattice_from}
use Rattle.lattice_core.specs.Lattice.{Lattice}
use Rattle.site_rows.specs.SiteRows.{SiteRow, row_for}
use Rattle.site_rows.specs.TypeWords.{type_of}

-- the type of a site, numbered from 0, by its row
abbrev pub type_at : List (List ℕ) → List SiteRow → ℕ → ℕ
type_at names rows site = option_map_or (λ row. type_of names row.type_word.bytes) (row_for (site + 1) rows) 0

-- its neighbours by its row, numbered from 0 too
abbrev pub neighbours_at : List SiteRow → ℕ → List ℕ
neighbours_at rows site = option_map_or (λ row. map (λ n. n - 1) row.neighbours) (row_for (site + 1) rows) []

-- the neighbours of all sites
abbrev pub listed_neighbours : ℕ → List SiteRow → List (List ℕ)
listed_neighbours sites rows = map (neighbours_at rows) (range_with_len 0 sites)

-- the lattice of a list of sites
abbrev pub listed_lattice : ℕ → List (List ℕ) → List SiteRow → Lattice
listed_lattice sites names rows =
    lattice_from (map (type_at names rows) (range_with_len 0 sites)) (listed_neighbours sites rows)
