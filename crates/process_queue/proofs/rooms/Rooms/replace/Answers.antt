use Rattle.std.proofs.Common.{Some, sym, subst}
use Rattle.slab.proofs.SlabLemmas.{Updates-with_value}
use Rattle.slab.specs.Slab.{ContainsKey, with_value}
use Rattle.process_queue.proofs.RoomTrees.{real-entry, taken-within, tree-after}
use Rattle.process_queue.specs.Rooms.{RoomList}
use Rattle.process_queue.proofs.rooms.Rooms.replace.Goals as goal

pub invariant_of-self : goal.invariant_of-self
invariant_of-self c =
    let slab = c.self.inside.slab in
    let taken : ContainsKey slab c.args.room
    = subst (λ (r : RoomList). ContainsKey r.slab c.args.room) (sym c.self.view_is) c.requires.taken in
    tree-after slab (with_value slab c.args.room c.args.entry) c.args.room (Some c.args.entry)
    (Updates-with_value slab c.args.room c.args.entry taken) c.self.inside.leads.items c.mend.new.leads.items
    (real-entry c.args.entry c.requires.code) c.self.invariant
    (taken-within slab.slots c.self.inside.leads.items c.args.room c.self.invariant taken) c.mend.ensures.right c.mend.ensures.len
