use Rattle.std.proofs.Common.{◌≡◌, ℕ, [], vec_len}
use Rattle.lattice_core.specs.SiteList.{number_lists, list_of}
use Rattle.lattice_cell.proofs.neighbours.Neighbours.none.Given as goal

-- the lists so far are empty
abbrev pub invariant-loop : goal.invariant-loop
invariant-loop l = record {
  count : vec_len l.lists ≡ l.counter;
  none : (s : ℕ) → list_of (number_lists l.lists.items) s ≡ [];
}
