use Rattle.std.proofs.Common.{◌≡◌, ◌*◌, ◌||◌, take, vec_len}
use Rattle.std.specs.List.{list_any, range_with_len}
use Rattle.lattice_cell.specs.Naming.{NamesMore}
use Rattle.lattice_cell.specs.Periodic.{joins_at}
use Rattle.lattice_cell.proofs.neighbours.Neighbours.join_cells.Given as goal

-- what the join joins in the cells so far was added
abbrev pub invariant-loop-cell : goal.invariant-loop-cell
invariant-loop-cell l = record {
  count : vec_len l.self.lists ≡ vec_len l.fn.self.lists;
  more : NamesMore l.fn.self.lists.items l.self.lists.items (λ a b.
      list_any (λ c. joins_at l.fn.repeats.nx l.fn.repeats.ny l.fn.repeats.sites l.fn.join a b c
      || joins_at l.fn.repeats.nx l.fn.repeats.ny l.fn.repeats.sites l.fn.join b a c)
      (take l.cell (range_with_len 0 (l.fn.repeats.nx * l.fn.repeats.ny))));
}
