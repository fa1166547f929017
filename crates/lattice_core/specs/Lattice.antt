-- The lattice of a surface (Stamatakis and Vlachos 2011): sites that are neighbours of one another.
use Rattle.std.specs.Prelude.{ℕ, ◌≡◌, ◌≤◌, ◌<◌, Bool, true, false, List, [], length, All, Option, slice_index_or, slice_get, position, ◌==◌}
use Rattle.std.specs.List.{range_with_len}
use Rattle.std.specs.List.Sorted.{IsStrictlyIncreasing}
use Rattle.kmc_base.specs.declared.limits.TheConstants.{MAX_SITES}
use Rattle.lattice_core.specs.declared.graph.TheConstants.{MAX_NEIGHBOURS}
use Rattle.lattice_core.specs.SiteList.{is_listed}

-- the type of each site, and the numbers of the neighbours of each site
pub record Lattice : Type 0 where
  pub types : List ℕ
  pub neighbours : List (List ℕ)

-- how many sites a lattice has
abbrev pub site_count : Lattice → ℕ
site_count lattice = length lattice.types

-- the numbers of its sites, from 0
abbrev pub all_sites : Lattice → List ℕ
all_sites lattice = range_with_len 0 (site_count lattice)

-- the neighbours of a site, of which there are none past the last site
abbrev pub neighbours_of : Lattice → ℕ → List ℕ
neighbours_of lattice s = slice_index_or lattice.neighbours s []

-- whether the second site is a neighbour of the first
abbrev pub is_neighbour : Lattice → ℕ → ℕ → Bool
is_neighbour lattice s t = is_listed (neighbours_of lattice s) t

-- the slot of a neighbour: its place, from 0, among the neighbours of a site in rising order
abbrev pub slot_in : Lattice → ℕ → ℕ → Option ℕ
slot_in lattice s t = position (λ u. u == t) (neighbours_of lattice s)

-- the neighbour in a slot of a site
abbrev pub site_in_slot : Lattice → ℕ → ℕ → Option ℕ
site_in_slot lattice s slot = slice_get (neighbours_of lattice s) slot

-- what is true of every lattice: within the limits, each list rising and of sites of the lattice, neighbourhood
-- symmetric, and no site its own neighbour
pub record IsLattice (lattice : Lattice) : Type 0 where
  pub has_a_site : 1 ≤ site_count lattice
  pub within_limit : site_count lattice ≤ MAX_SITES
  pub one_list_each : length lattice.neighbours ≡ site_count lattice
  pub are_sites : (s : ℕ) → All (λ t. t < site_count lattice) (neighbours_of lattice s)
  pub rising : (s : ℕ) → IsStrictlyIncreasing (neighbours_of lattice s)
  pub few : (s : ℕ) → length (neighbours_of lattice s) ≤ MAX_NEIGHBOURS
  pub none_its_own : (s : ℕ) → is_neighbour lattice s s ≡ false
  pub symmetric : (s t : ℕ) → is_neighbour lattice s t ≡ true → is_neighbour lattice t s ≡ true
