use Rattle.std.proofs.Common.{◌≡◌, ℕ, ◌≤◌, length}
use Rattle.kmc_base.specs.Entries.{IsRising, codes_of, entry_at}
use Rattle.process_queue.specs.Filing.{entries_in}
use Rattle.process_queue.proofs.choice.skip_below.Given as goal

-- nothing with the code or a greater one was passed over
abbrev pub invariant-loop-rest : goal.invariant-loop-rest
invariant-loop-rest l = record {
  rising : IsRising (codes_of (entries_in l.rooms.slab.slots l.rest));
  same : (c : ℕ) → l.code ≤ c → entry_at c (entries_in l.rooms.slab.slots l.rest) ≡ entry_at c (entries_in l.rooms.slab.slots l.fn.list);
}

abbrev pub decreases-loop-rest : goal.decreases-loop-rest
decreases-loop-rest l = length l.rest
