use Rattle.std.proofs.Common.{List, ℕ, length, sym, subst}
use Rattle.process_queue.proofs.RefiledRooms.{refiled, still-taken}
use Rattle.process_queue.proofs.RoomLists.{distinct-take}
use Rattle.process_queue.specs.Filing.{AreDistinct, AreTaken, IsRefiled}
use Rattle.process_queue.proofs.filing.refile.Goals as goal

pub file_all-requires-clause-distinct : goal.file_all-requires-clause-distinct
file_all-requires-clause-distinct c =
    subst AreDistinct (sym c.shorten.ensures.list) (distinct-take c.args.list.now.items (length c.args.entries.now) c.requires.distinct)

pub file_all-requires-clause-taken : goal.file_all-requires-clause-taken
file_all-requires-clause-taken c =
    let mid = c.shorten.new.rooms.slab.slots in
    subst (AreTaken mid) (sym c.shorten.ensures.list)
    (still-taken c.args.rooms.now.slab.slots mid c.args.list.now.items (length c.args.entries.now) c.shorten.ensures.gone c.shorten.ensures.others
    c.requires.distinct c.requires.taken)

pub returns-clause-refiled : goal.returns-clause-refiled
returns-clause-refiled c =
    let old = c.args.rooms.now.slab.slots in
    let mid = c.shorten.new.rooms.slab.slots in
    let new = c.file_all.new.rooms.slab.slots in
    let after = c.file_all.new.list.items in
    let entries = c.args.entries.now in
    refiled old mid c.args.list.now.items (length entries) c.shorten.ensures.gone c.shorten.ensures.others new after entries
    (subst (λ (rooms : List ℕ). IsRefiled mid new rooms after entries) c.shorten.ensures.list c.file_all.ensures.refiled)
