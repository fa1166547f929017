-- The cells of a periodic lattice and their sites, all counted from 0. There are nx cells in the first direction, east,
-- and ny in the second, north, with periodic boundaries: past the last cell of a direction comes its first again.
use Rattle.std.specs.Prelude.{ℕ, ◌+◌, ◌-◌, ◌*◌, ◌/◌, ◌%◌, ◌<◌}
use Rattle.lattice_cell.specs.declared.cell.Join.{Join}
use Rattle.lattice_cell.specs.declared.cell.Toward.{Toward}
use Rattle.lattice_cell.specs.declared.cell.Toward.TheVariants.{Own, North, Northeast, East, Southeast}

-- the number of the cell that stands at a in the first direction and at b in the second
abbrev pub cell_at : ℕ → ℕ → ℕ → ℕ
cell_at ny a b = a * ny + b

-- how many cells a displacement leads east
abbrev pub steps_east : Toward → ℕ
steps_east Own = 0
steps_east North = 0
steps_east Northeast = 1
steps_east East = 1
steps_east Southeast = 1

-- and how many it leads north: one step south is all but one of the way around
abbrev pub steps_north : ℕ → Toward → ℕ
steps_north ny Own = 0
steps_north ny North = 1
steps_north ny Northeast = 1
steps_north ny East = 0
steps_north ny Southeast = ny - 1

-- the number of the cell to which a displacement leads from a cell, which stands at cell / ny and at cell % ny
unfoldable pub displaced : ℕ → ℕ → Toward → ℕ → ℕ
displaced nx ny toward cell =
    cell_at ny ((cell / ny + steps_east toward) % nx) ((cell % ny + steps_north ny toward) % ny)

-- the number of a site of a cell, where each cell has so many sites
abbrev pub site_at : ℕ → ℕ → ℕ → ℕ
site_at sites cell k = cell * sites + k

-- both ends of a join are sites of the cell
abbrev pub IsInCell : ℕ → Join → Type 0
IsInCell sites join = (join.from < sites) × (join.to < sites)
