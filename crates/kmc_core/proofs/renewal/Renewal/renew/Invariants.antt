use Rattle.std.proofs.Common.{◌≡◌, ℕ, ◌*◌, ◌^◌, ◌≤◌, ◌++◌, drop}
use Rattle.kmc_base.specs.Entries.{IsRising, codes_of, entry_at}
use Rattle.trajectory.specs.ByCode.{by_code}
use Rattle.lattice_core.specs.Config.{state_at}
use Rattle.rate_rules.specs.System.{instances_from, offers}
use Rattle.trajectory.specs.Trajectory.{renewed}
use Rattle.kmc_core.proofs.renewal.Renewal.renew.Given as goal

-- the entries so far, and those of the processes that are left, are all entries; of each code of these processes, what
-- is left of the old entries has what all of them have
abbrev pub invariant-loop-number : goal.invariant-loop-number
invariant-loop-number g l = record {
  done : l.entries ++ renewed l.fn.self.draws l.fn.self.event l.fn.self.time l.fn.self.fired l.old
      (by_code (instances_from l.deck.chem (state_at l.config) l.number (drop l.number l.deck.chem.processes)))
      ≡ l.fn.entries ++ renewed l.fn.self.draws l.fn.self.event l.fn.self.time l.fn.self.fired l.old (offers l.deck.chem l.config);
  same : l.self ≡ l.fn.self;
  rest : IsRising (codes_of l.rest);
  found : (c : ℕ) → l.number * 2 ^ 55 ≤ c → entry_at c l.rest ≡ entry_at c l.old;
}
