use Rattle.std.proofs.Common.{◌≤◌, Some, length, sym, subst, arith}
use Rattle.process_queue.proofs.RoomTrees.{real-after, real-entry, tree-after}
use Rattle.process_queue.specs.Rooms.{RoomList}
use Rattle.process_queue.proofs.rooms.Rooms.insert.Goals as goal

pub mend-requires-clause-real : goal.mend-requires-clause-real
mend-requires-clause-real c =
    real-after c.self.inside.slab c.insert_reserved-room.new.self c.insert_reserved-room.result (Some c.args.entry)
    c.insert_reserved-room.ensures.updates (real-entry c.args.entry c.requires.code) c.self.invariant.real

pub invariant_of-self : goal.invariant_of-self
invariant_of-self c =
    let enough : c.self.inside.slab.capacity ≤ length c.self.inside.leads.items
    = subst (λ (r : RoomList). r.slab.capacity ≤ r.nodes) (sym c.self.view_is) c.requires.room.nodes in
    let below = c.insert_reserved-room.ensures.key_in_range in
    let capacity = c.insert_reserved-room.ensures.capacity in
    tree-after c.self.inside.slab c.insert_reserved-room.new.self c.insert_reserved-room.result (Some c.args.entry)
    c.insert_reserved-room.ensures.updates c.self.inside.leads.items c.mend.new.leads.items
    (real-entry c.args.entry c.requires.code) c.self.invariant (omega arith) c.mend.ensures.right c.mend.ensures.len
