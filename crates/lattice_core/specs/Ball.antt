-- Walks, distances and balls on a lattice.
use Rattle.std.specs.Prelude.{ℕ, zero, suc, ◌≡◌, ◌≤◌, ◌+◌, ◌==◌, Bool, true, List, Contains, filter}
use Rattle.std.specs.List.{list_any, range_with_len}
use Rattle.lattice_core.specs.Lattice.{Lattice, all_sites, neighbours_of}

-- whether a walk of n steps leads from a site to another, each step between neighbours
unfoldable pub has_walk : Lattice → ℕ → ℕ → ℕ → Bool
has_walk lattice a b zero = a == b
has_walk lattice a b (suc n) = list_any (λ c. has_walk lattice a c n) (neighbours_of lattice b)

-- the distance of two sites: the least number of steps of a walk between them
pub record IsDistance (lattice : Lattice) (a b n : ℕ) : Type 0 where
  pub walk : has_walk lattice a b n ≡ true
  pub least : (m : ℕ) → has_walk lattice a b m ≡ true → n ≤ m

-- a site is within a distance of some centre
abbrev pub IsNear : Lattice → List ℕ → ℕ → ℕ → Type 0
IsNear lattice centres radius s = (c n : ℕ) × Contains centres c × IsDistance lattice c s n × (n ≤ radius)

-- whether a walk of at most so many steps leads from some centre to a site
unfoldable pub is_reached : Lattice → List ℕ → ℕ → ℕ → Bool
is_reached lattice centres radius s =
    list_any (λ c. list_any (has_walk lattice c s) (range_with_len 0 (radius + 1))) centres

-- the ball: the sites within a distance of the centres, rising, each once
unfoldable pub ball : Lattice → List ℕ → ℕ → List ℕ
ball lattice centres radius = filter (is_reached lattice centres radius) (all_sites lattice)
