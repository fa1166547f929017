use Rattle.std.proofs.Common.{◌≡◌, ◌*◌, ◌^◌, ◌<◌}
use Rattle.std.specs.List.{AllByRecursion}
use Rattle.kmc_base.specs.Entries.{IsRising, codes_of}
use Rattle.process_queue.specs.Renewal.{anchor_in}
use Rattle.process_queue.proofs.tests.part_of.Given as goal

-- the entries of the processes before this one
abbrev pub invariant-loop-process : goal.invariant-loop-process
invariant-loop-process l = record {
  rising : IsRising (codes_of l.entries.items);
  below : AllByRecursion (λ n. n < l.process * 2 ^ 55) (codes_of l.entries.items);
  anchored : AllByRecursion (λ e. anchor_in e.code ≡ l.anchor) l.entries.items;
}
