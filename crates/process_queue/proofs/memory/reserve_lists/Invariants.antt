use Rattle.std.proofs.Common.{◌≡◌, length, take}
use Rattle.process_queue.specs.Filing.{capacities_of, rooms_of}
use Rattle.process_queue.specs.Memory.{HaveListMemory}
use Rattle.process_queue.proofs.memory.reserve_lists.Given as goal

-- there is memory for the parts that were looked at
abbrev pub invariant-loop-part : goal.invariant-loop-part
invariant-loop-part l = record {
  rooms : rooms_of l.lists.items ≡ rooms_of l.initial.lists.items;
  sites : length l.lists.items ≡ length l.initial.lists.items;
  memory : HaveListMemory (capacities_of l.lists.items) (take l.part-index l.parts);
}
