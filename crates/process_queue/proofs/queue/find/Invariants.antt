use Rattle.std.proofs.Common.{◌≡◌, drop}
use Rattle.kmc_base.specs.Entries.{entry_at}
use Rattle.process_queue.specs.Filing.{entries_in}
use Rattle.process_queue.proofs.queue.find.Given as goal

-- it is not in a room that was looked at
abbrev pub invariant-loop-room : goal.invariant-loop-room
invariant-loop-room l =
    entry_at l.code (entries_in l.rooms.slab.slots (drop l.room-index l.list)) ≡ entry_at l.code (entries_in l.rooms.slab.slots l.list)
