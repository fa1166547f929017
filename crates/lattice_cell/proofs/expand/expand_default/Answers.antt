use Rattle.lattice_cell.specs.declared.expand.DefaultLattice.TheVariants.{Hexagonal, Rectangular}
use Rattle.lattice_cell.proofs.DefaultCells.{default_faultless}
use Rattle.lattice_cell.proofs.expand.expand_default.Goals as goal

pub returns-in-Rectangular-clause-faultless : goal.returns-in-Rectangular-clause-faultless
returns-in-Rectangular-clause-faultless c wide =
    c.expand_periodic.ensures.faultless (default_faultless c.args.nx c.args.ny wide.0 wide.1 Rectangular)

pub returns-in-Hexagonal-clause-faultless : goal.returns-in-Hexagonal-clause-faultless
returns-in-Hexagonal-clause-faultless c wide =
    c.expand_periodic-in-Hexagonal.ensures.faultless (default_faultless c.args.nx c.args.ny wide.0 wide.1 Hexagonal)
