use Rattle.std.proofs.Common.{◌≡◌, ◌*◌, ◌^◌, ◌≤◌, take, unsigned_abs}
use Rattle.cluster_book.specs.Total.{sum_of_shares}
use Rattle.cluster_book.proofs.sum.sum_of.Given as goal

-- the sum of what was looked at
abbrev pub invariant-loop-instance : goal.invariant-loop-instance
invariant-loop-instance l = record {
  sum : l.sum ≡ sum_of_shares l.shares (take l.instance-index l.found);
  range : unsigned_abs l.sum ≤ l.instance-index * 2 ^ 40;
}
