use Rattle.std.proofs.Common.{◌≡◌, ℕ, ◌+◌, ◌-◌, ◌*◌, ◌^◌, ◌≤◌, ◌++◌}
use Rattle.std.specs.List.{range_with_len}
use Rattle.kmc_base.specs.Entries.{IsRising, codes_of, entry_at}
use Rattle.kmc_core.proofs.AnchorInstances.{instances_with}
use Rattle.trajectory.specs.ByCode.{by_code}
use Rattle.lattice_core.specs.Config.{state_at}
use Rattle.rate_rules.specs.System.{instances_of}
use Rattle.trajectory.specs.Trajectory.{renewed}
use Rattle.lattice_core.specs.Lattice.{site_count}
use Rattle.kmc_core.proofs.renewal.Renewal.renew_process.Given as goal

-- the entries so far, and those of the anchors that are left, are all entries of the process; of each code of these
-- anchors, and of greater ones, what is left of the old entries has what all of them have
abbrev pub invariant-loop-anchor : goal.invariant-loop-anchor
invariant-loop-anchor g l = record {
  done : l.entries ++ renewed l.fn.self.draws l.fn.self.event l.fn.self.time l.fn.self.fired l.old
      (by_code (instances_with l.listed.deck.now.chem l.listed.config.now l.listed.number l.listed.process.now
      (range_with_len l.anchor (site_count l.listed.deck.now.chem.graph - l.anchor))))
      ≡ l.fn.entries ++ renewed l.fn.self.draws l.fn.self.event l.fn.self.time l.fn.self.fired l.old
      (by_code (instances_of l.listed.deck.now.chem (state_at l.listed.config.now) l.listed.number l.listed.process.now));
  same : l.self ≡ l.fn.self;
  rest : IsRising (codes_of l.rest);
  found : (c : ℕ) → l.listed.number * 2 ^ 55 + l.anchor * 2 ^ 35 ≤ c → entry_at c l.rest ≡ entry_at c l.old;
}
