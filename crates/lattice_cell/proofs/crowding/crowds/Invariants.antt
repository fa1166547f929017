use Rattle.std.proofs.Common.{◌≡◌, ◌*◌, ℕ, take, false, vec_len}
use Rattle.lattice_cell.specs.Naming.{names}
use Rattle.lattice_cell.proofs.Joining.{joined_by}
use Rattle.lattice_cell.proofs.crowding.crowds.Given as goal

-- the lists name what the joins so far join, and none is too long
abbrev pub invariant-loop-join : goal.invariant-loop-join
invariant-loop-join l = record {
  count : vec_len l.neighbours.lists ≡ l.fn.repeats.nx * l.fn.repeats.ny * l.fn.repeats.sites;
  named : (s t : ℕ) → names l.neighbours.lists.items s t ≡ joined_by l.fn.repeats.nx l.fn.repeats.ny
      l.fn.repeats.sites (take l.join-index l.fn.joins) s t;
  few : l.neighbours.is_crowded ≡ false;
}
