use Rattle.std.proofs.Common.{take}
use Rattle.std.specs.Prelude.{vec_capacity}
use Rattle.process_queue.specs.Memory.{HasMemoryForEach}
use Rattle.process_queue.proofs.memory.reserve_for_each.Given as goal

-- there is memory for the parts that were looked at
abbrev pub invariant-loop-part : goal.invariant-loop-part
invariant-loop-part l = HasMemoryForEach (vec_capacity l.chosen) (take l.part-index l.parts)
