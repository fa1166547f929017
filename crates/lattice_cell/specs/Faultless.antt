-- Repeated cells whose lattice has no fault, since no site is its own neighbour and none has too many.
use Rattle.std.specs.Prelude.{ℕ, ◌==◌, ◌≡◌, ◌&&◌, Bool, false, List, length, nat_lt}
use Rattle.std.specs.List.{list_any}
use Rattle.lattice_core.specs.declared.graph.TheConstants.{MAX_NEIGHBOURS}
use Rattle.lattice_cell.specs.declared.cell.Join.{Join}
use Rattle.lattice_cell.specs.Cells.{displaced}
use Rattle.lattice_cell.specs.Periodic.{neighbour_lists}

-- a join joins a site to itself: it names one site of the cell twice, and its displacement leads from the first cell back
-- to it. A join looks alike from each cell, so it does so either in all cells or in none.
abbrev pub joins_itself : ℕ → ℕ → Join → Bool
joins_itself nx ny join = join.from == join.to && displaced nx ny join.toward 0 == 0

-- some site has more than 32 neighbours
abbrev pub is_crowded : ℕ → ℕ → ℕ → List Join → Bool
is_crowded nx ny sites joins = list_any (λ list. nat_lt MAX_NEIGHBOURS (length list)) (neighbour_lists nx ny sites joins)

-- a cell that gives a lattice with so many repeats: no join joins a site to itself, and no site is crowded
pub record IsFaultlessCell (nx ny sites : ℕ) (joins : List Join) : Type 0 where
  pub none_itself : list_any (joins_itself nx ny) joins ≡ false
  pub none_crowded : is_crowded nx ny sites joins ≡ false
