use Rattle.std.proofs.Common.{◌≡◌}
use Rattle.std.specs.Prelude.{vec_capacity}
use Rattle.process_queue.proofs.FiledRooms.{IsPartlyFiled}
use Rattle.process_queue.specs.Rooms.{GrewBy}
use Rattle.process_queue.proofs.filing.file_all.Given as goal

-- the entries before this place are filed
abbrev pub invariant-loop-place : goal.invariant-loop-place
invariant-loop-place l = record {
  partly : IsPartlyFiled l.fn.rooms.slab.slots l.rooms.slab.slots l.fn.list.items l.list.items l.entries l.place;
  grew : GrewBy l.fn.rooms l.rooms l.place;
  capacity : vec_capacity l.list ≡ vec_capacity l.fn.list;
}
