use Rattle.std.proofs.Common.{sym}
use Rattle.lattice_core.specs.SiteList.{number_lists}
use Rattle.lattice_cell.proofs.Crowded.{none-long}
use Rattle.lattice_cell.proofs.EachOnce.{HasEachOnce-none}
use Rattle.lattice_cell.proofs.neighbours.Neighbours.none.Goals as goal

pub invariant_of-result : goal.invariant_of-result
invariant_of-result c = record {
  each_once = HasEachOnce-none (number_lists c.loop.lists.items) c.loop.invariant.none;
  crowded = sym (none-long (number_lists c.loop.lists.items) c.loop.invariant.none);
}
