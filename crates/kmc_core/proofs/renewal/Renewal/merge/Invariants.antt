use Rattle.std.proofs.Common.{◌≡◌, ℕ, ◌≤◌, ◌++◌, drop, map}
use Rattle.std.specs.List.{AllByRecursion}
use Rattle.kmc_base.specs.Entries.{IsRising, codes_of, entry_at}
use Rattle.rate_rules.specs.InstanceRange.{IsInRange}
use Rattle.trajectory.specs.Trajectory.{renewed}
use Rattle.kmc_core.proofs.renewal.Renewal.merge.Given as goal

-- the entries so far, and those of the instances that are left, are all entries; of each instance that is left, and of
-- each code that is not below those of the instances, what is left of the old entries has what all of them have
abbrev pub invariant-loop-instance : goal.invariant-loop-instance
invariant-loop-instance l = record {
  done : l.entries ++ renewed l.fn.self.draws l.fn.self.event l.fn.self.time l.fn.self.fired l.old (drop l.instance-index l.instances)
      ≡ l.fn.entries ++ renewed l.fn.self.draws l.fn.self.event l.fn.self.time l.fn.self.fired l.old l.instances;
  same : l.self ≡ l.fn.self;
  rest : IsRising (codes_of l.rest);
  found : AllByRecursion (λ offer. entry_at offer.code l.rest ≡ entry_at offer.code l.old) (drop l.instance-index l.instances);
  later : (c : ℕ) → AllByRecursion (λ offer. offer.code ≤ c) l.instances → entry_at c l.rest ≡ entry_at c l.old;
  rising : IsRising (map (λ offer. offer.code) (drop l.instance-index l.instances));
  in_range : AllByRecursion IsInRange (drop l.instance-index l.instances);
}
