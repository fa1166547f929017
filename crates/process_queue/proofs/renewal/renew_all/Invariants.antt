use Rattle.std.proofs.Common.{◌≡◌, drop}
use Rattle.std.specs.List.{AllByRecursion}
use Rattle.std.specs.Prelude.{vec_capacity}
use Rattle.process_queue.proofs.RenewedEntries.{AreDifferent}
use Rattle.process_queue.specs.Renewal.{IsPart, anchors_of, renewed_at}
use Rattle.process_queue.specs.Filing.{IsIndexed, capacities_of, rooms_of}
use Rattle.process_queue.specs.Memory.{entry_count}
use Rattle.process_queue.specs.Rooms.{HasRoom, entries_of}
use Rattle.process_queue.proofs.renewal.renew_all.Given as goal

-- renewing the anchors that are left completes it
abbrev pub invariant-loop-part : goal.invariant-loop-part
invariant-loop-part l = record {
  index : IsIndexed l.rooms.slab.slots (rooms_of l.lists.items);
  rest : renewed_at (drop l.part-index l.parts) l.fired (entries_of l.rooms.slab) ≡ renewed_at l.parts l.fired (entries_of l.fn.rooms.slab);
  are : AllByRecursion IsPart (drop l.part-index l.parts);
  different : AreDifferent (anchors_of (drop l.part-index l.parts));
  room : HasRoom l.rooms (entry_count (drop l.part-index l.parts));
  capacities : capacities_of l.lists.items ≡ capacities_of l.fn.lists.items;
  chosen : vec_capacity l.chosen ≡ vec_capacity l.fn.chosen;
}
