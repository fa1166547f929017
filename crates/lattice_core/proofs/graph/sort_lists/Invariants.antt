use Rattle.std.proofs.Common.{◌≡◌, ◌<◌, ℕ, length}
use Rattle.std.specs.List.Sorted.{IsStrictlyIncreasing}
use Rattle.lattice_core.specs.SiteList.{number_lists, is_listed, list_of}
use Rattle.lattice_core.proofs.graph.sort_lists.Given as goal

-- the lists so far rise, and each names what it did
abbrev pub invariant-loop-i : goal.invariant-loop-i
invariant-loop-i l = record {
  same_length : length l.lists ≡ length l.fn.lists;
  rising : (s : ℕ) → s < l.i → IsStrictlyIncreasing (list_of (number_lists l.lists) s);
  same_sites : (s t : ℕ) → is_listed (list_of (number_lists l.lists) s) t ≡ is_listed (list_of (number_lists l.fn.lists) s) t;
}
