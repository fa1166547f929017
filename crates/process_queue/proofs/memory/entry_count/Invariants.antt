use Rattle.std.proofs.Common.{◌≡◌, take}
use Rattle.process_queue.specs.Memory.{entry_count}
use Rattle.process_queue.proofs.memory.entry_count.Given as goal

-- the count of the parts that were looked at
abbrev pub invariant-loop-part : goal.invariant-loop-part
invariant-loop-part l = l.count ≡ entry_count (take l.part-index l.parts)
