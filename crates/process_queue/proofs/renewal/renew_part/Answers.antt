use Rattle.std.proofs.Common.{◌<◌, ℕ, List, length, map, sym, subst}
use Rattle.kmc_base.specs.Entries.{chosen as chosen_of}
use Rattle.process_queue.proofs.IndexedRooms.{entries-renewed, indexed-renewed}
use Rattle.process_queue.proofs.VecLists.{capacities-kept, length-rooms, rooms-read, rooms-set}
use Rattle.process_queue.specs.Filing.{IsIndexed, IsOfSite, IsRefiled, entries_in, rooms_at, rooms_of}
use Rattle.process_queue.proofs.renewal.renew_part.Goals as goal

pub renew_anchor-requires-clause-site : goal.renew_anchor-requires-clause-site
renew_anchor-requires-clause-site c =
    let site = c.args.part.now.anchor.0 in
    let lists = c.args.lists.now.items in
    subst (IsOfSite c.args.rooms.now.slab.slots site)
    (rooms-read lists site c.index_mut-list.result.now c.requires.anchor c.index_mut-list.ensures.value) (c.requires.index.sites site)

-- the rooms of the site are filled again
refiled : (c : goal.After-lists-1)
    → IsRefiled c.args.rooms.now.slab.slots c.renew_anchor.new.rooms.slab.slots (rooms_at (rooms_of c.args.lists.now.items) c.args.part.now.anchor.0)
    c.renew_anchor.new.list.items
    (map (chosen_of (entries_in c.args.rooms.now.slab.slots (rooms_at (rooms_of c.args.lists.now.items) c.args.part.now.anchor.0)) c.args.fired)
    c.args.part.now.entries)
refiled c =
    let old = c.args.rooms.now.slab.slots in
    let new = c.renew_anchor.new.rooms.slab.slots in
    subst (λ (before : List ℕ). IsRefiled old new before c.renew_anchor.new.list.items
    (map (chosen_of (entries_in old before) c.args.fired) c.args.part.now.entries))
    (sym (rooms-read c.args.lists.now.items c.args.part.now.anchor.0 c.index_mut-list.result.now c.requires.anchor c.index_mut-list.ensures.value))
    c.renew_anchor.ensures.refiled

inside : (c : goal.After-lists-1) → c.args.part.now.anchor.0 < length (rooms_of c.args.lists.now.items)
inside c =
    subst (λ n. c.args.part.now.anchor.0 < n) (sym (length-rooms c.args.lists.now.items)) c.requires.anchor

pub returns-clause-index : goal.returns-clause-index
returns-clause-index c =
    subst (IsIndexed c.renew_anchor.new.rooms.slab.slots)
    (sym (rooms-set c.args.lists.now.items c.args.part.now.anchor.0 c.renew_anchor.new.list))
    (indexed-renewed c.args.rooms.now.slab.slots c.renew_anchor.new.rooms.slab.slots (rooms_of c.args.lists.now.items) c.requires.index
    c.args.part.now c.args.fired c.requires.part (inside c) c.renew_anchor.new.list.items (refiled c))

pub returns-clause-entries : goal.returns-clause-entries
returns-clause-entries c =
    entries-renewed c.args.rooms.now.slab.slots c.renew_anchor.new.rooms.slab.slots (rooms_of c.args.lists.now.items) c.requires.index
    c.args.part.now c.args.fired c.requires.part (inside c) c.renew_anchor.new.list.items (refiled c)

pub returns-clause-list_capacities : goal.returns-clause-list_capacities
returns-clause-list_capacities c =
    capacities-kept c.args.lists.now.items c.args.part.now.anchor.0 c.index_mut-list.result.now c.requires.anchor c.index_mut-list.ensures.value
    c.renew_anchor.new.list c.renew_anchor.ensures.list_capacity
