use Rattle.std.proofs.Common.{◌≡◌, ℕ, drop}
use Rattle.process_queue.proofs.RoomLists.{emptied}
use Rattle.process_queue.specs.Filing.{AreDistinct, AreTaken, in_room}
use Rattle.process_queue.specs.Rooms.{GrewBy}
use Rattle.process_queue.proofs.filing.empty_rooms.Given as goal

-- once the rooms that are left are emptied, all are
abbrev pub invariant-loop-room : goal.invariant-loop-room
invariant-loop-room l = record {
  rest : (room : ℕ) → emptied (drop l.room-index l.list) room (in_room l.rooms.slab.slots room)
      ≡ emptied l.list room (in_room l.fn.rooms.slab.slots room);
  distinct : AreDistinct (drop l.room-index l.list);
  taken : AreTaken l.rooms.slab.slots (drop l.room-index l.list);
  grew : GrewBy l.fn.rooms l.rooms 0;
}
