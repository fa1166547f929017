-- The default lattices (Zacros manual): one site in each cell, of type 1. That is a rule of kmc, also where the manual
-- has another cell.
use Rattle.std.specs.Prelude.{ℕ, List, [], ◌∷◌}
use Rattle.lattice_core.specs.Lattice.{Lattice}
use Rattle.lattice_cell.specs.declared.cell.Join.{Join}
use Rattle.lattice_cell.specs.declared.cell.Toward.{Toward}
use Rattle.lattice_cell.specs.declared.cell.Toward.TheVariants.{North, Northeast, East}
use Rattle.lattice_cell.specs.declared.expand.DefaultLattice.{DefaultLattice}
use Rattle.lattice_cell.specs.declared.expand.DefaultLattice.TheVariants.{Rectangular, Hexagonal}
use Rattle.lattice_cell.specs.Periodic.{periodic_lattice}

-- the one site of each cell is joined to that of a displaced cell
abbrev pub joined_toward : Toward → Join
joined_toward displacement = record { from = 0; to = 0; toward = displacement }

-- the joins: north and east (four neighbours), and in the hexagonal lattice northeast as well (six)
abbrev pub default_joins : DefaultLattice → List Join
default_joins Rectangular = joined_toward North ∷ joined_toward East ∷ []
default_joins Hexagonal = joined_toward North ∷ joined_toward East ∷ joined_toward Northeast ∷ []

-- the lattice of that kind with so many repeats
abbrev pub default_lattice : DefaultLattice → ℕ → ℕ → Lattice
default_lattice kind nx ny = periodic_lattice nx ny (1 ∷ []) (default_joins kind)
