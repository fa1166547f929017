use Rattle.std.proofs.Common.{◌≡◌, ◌++◌, drop, length, map}
use Rattle.std.specs.List.{AllByRecursion}
use Rattle.std.specs.Prelude.{vec_capacity}
use Rattle.kmc_base.specs.Entries.{IsRising, chosen as chosen_of, codes_of, entry_at}
use Rattle.process_queue.specs.Filing.{entries_in}
use Rattle.process_queue.proofs.choice.choose.Given as goal

-- what was chosen so far, and what the fresh entries that are left give, is all; of each of these, what is left of the
-- rooms has what all of them have
abbrev pub invariant-loop-entry : goal.invariant-loop-entry
invariant-loop-entry l = record {
  done : l.chosen.items ++ map (chosen_of (entries_in l.rooms.slab.slots l.list) l.fired) (drop l.entry-index l.fresh)
      ≡ map (chosen_of (entries_in l.rooms.slab.slots l.list) l.fired) l.fresh;
  count : length l.chosen.items ≡ l.entry-index;
  capacity : vec_capacity l.chosen ≡ vec_capacity l.fn.chosen;
  rest : IsRising (codes_of (entries_in l.rooms.slab.slots l.rest));
  found : AllByRecursion (λ e. entry_at e.code (entries_in l.rooms.slab.slots l.rest) ≡ entry_at e.code (entries_in l.rooms.slab.slots l.list))
      (drop l.entry-index l.fresh);
  rising : IsRising (codes_of (drop l.entry-index l.fresh));
}
