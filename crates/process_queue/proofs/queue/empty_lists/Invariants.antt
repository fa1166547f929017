use Rattle.std.proofs.Common.{◌≡◌, ◌≤◌, [], replicate}
use Rattle.std.specs.Prelude.{vec_capacity}
use Rattle.process_queue.specs.Filing.{rooms_of}
use Rattle.process_queue.proofs.queue.empty_lists.Given as goal

-- as many empty lists as were added, and room for all
abbrev pub invariant-loop : goal.invariant-loop
invariant-loop l = record {
  lists : rooms_of l.lists.items ≡ replicate l.counter [];
  room : l.sites ≤ vec_capacity l.lists;
}
