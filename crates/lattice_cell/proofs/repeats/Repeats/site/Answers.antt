use Rattle.lattice_cell.proofs.CellNumbers.{place_below}
use Rattle.lattice_cell.proofs.repeats.Repeats.site.Goals as goal

pub returns-clause-inside : goal.returns-clause-inside
returns-clause-inside c = place_below _ _ _ _ c.requires.cell c.requires.place
