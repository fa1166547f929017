use Rattle.std.proofs.Common.{arith}
use Rattle.lattice_cell.proofs.CellNumbers.{place_below, cell_within}
use Rattle.lattice_cell.proofs.repeats.Repeats.cell_at.Goals as goal

pub overflow_mul-result : goal.overflow_mul-result
overflow_mul-result c =
    let r = c.args.self in
    let within = cell_within c.args.column c.args.row r.nx r.ny r.sites _ c.requires.column c.requires.row r.has_a_site r.within_limit in
    omega (arith, within)

pub overflow_add-result : goal.overflow_add-result
overflow_add-result c =
    let r = c.args.self in
    let within = cell_within c.args.column c.args.row r.nx r.ny r.sites _ c.requires.column c.requires.row r.has_a_site r.within_limit in
    omega (arith, within)

pub returns-clause-inside : goal.returns-clause-inside
returns-clause-inside c = place_below _ _ _ _ c.requires.column c.requires.row
