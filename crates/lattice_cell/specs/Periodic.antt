-- The lattice of a cell that is repeated: each join of the cell joins two sites for each cell of the lattice.
use Rattle.std.specs.Prelude.{ℕ, ◌==◌, ◌&&◌, ◌||◌, ◌*◌, ◌%◌, Bool, List, length, map, filter, slice_index}
use Rattle.std.specs.List.{list_any, range_with_len}
use Rattle.lattice_core.specs.Lattice.{Lattice}
use Rattle.lattice_cell.specs.declared.cell.Join.{Join}
use Rattle.lattice_cell.specs.Cells.{displaced, site_at}

-- whether a join joins site s to site t for a cell: s is its first site there, and t its second in the displaced cell
abbrev pub joins_at : ℕ → ℕ → ℕ → Join → ℕ → ℕ → ℕ → Bool
joins_at nx ny sites join s t cell =
    (site_at sites cell join.from == s) && (site_at sites (displaced nx ny join.toward cell) join.to == t)

-- whether it does so for some cell
unfoldable pub joins_sites : ℕ → ℕ → ℕ → Join → ℕ → ℕ → Bool
joins_sites nx ny sites join s t = list_any (joins_at nx ny sites join s t) (range_with_len 0 (nx * ny))

-- whether two sites are joined, by some join, in either order
unfoldable pub are_joined : ℕ → ℕ → ℕ → List Join → ℕ → ℕ → Bool
are_joined nx ny sites joins s t =
    list_any (λ join. joins_sites nx ny sites join s t || joins_sites nx ny sites join t s) joins

-- for each site of the lattice the sites that are joined to it, rising, each once
unfoldable pub neighbour_lists : ℕ → ℕ → ℕ → List Join → List (List ℕ)
neighbour_lists nx ny sites joins =
    let all_sites = range_with_len 0 (nx * ny * sites) in
    map (λ s. filter (are_joined nx ny sites joins s) all_sites) all_sites

-- the lattice: each site has the type of the cell's site that it repeats
abbrev pub periodic_lattice : ℕ → ℕ → List ℕ → List Join → Lattice
periodic_lattice nx ny types joins = record {
  types = map (λ s. slice_index types (s % length types)) (range_with_len 0 (nx * ny * length types));
  neighbours = neighbour_lists nx ny (length types) joins;
}
