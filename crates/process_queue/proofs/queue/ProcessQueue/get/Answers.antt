use Rattle.std.proofs.Common.{◌≡◌, ◌≤◌, ◌<◌, length, get_or, ap, sym, subst, ◌∙◌}
use Rattle.kmc_base.specs.Entries.{entry_at}
use Rattle.process_queue.specs.Renewal.{anchor_in}
use Rattle.process_queue.proofs.IndexedRooms.{found-at}
use Rattle.process_queue.proofs.VecLists.{rooms-outside, rooms-read}
use Rattle.process_queue.specs.Filing.{entries_in, rooms_of}
use Rattle.process_queue.specs.Queue.{Queue}
use Rattle.process_queue.proofs.queue.ProcessQueue.get.Goals as goal

pub returns-in_err-get : goal.returns-in_err-get
returns-in_err-get c =
    let slots = c.self.inside.rooms.slab.slots in
    let lists = c.self.inside.lists.items in
    let code = c.args.code in
    let outside : length lists ≤ anchor_in code = subst (λ ls. length ls ≤ anchor_in code) c.deref.ensures.value c.in_err-get.ensures.lookup.3 in
    c.from_residual.ensures
    ∙ sym (ap (λ (q : Queue). entry_at code q.entries) (sym c.self.view_is) ∙ found-at slots (rooms_of lists) c.self.invariant code
    ∙ ap (λ rooms. entry_at code (entries_in slots rooms)) (rooms-outside lists (anchor_in code) outside))

pub returns : goal.returns
returns c =
    let slots = c.self.inside.rooms.slab.slots in
    let lists = c.self.inside.lists.items in
    let code = c.args.code in
    let list = c.in_ok-get.field-0.now in
    let inside : anchor_in code < length lists = subst (λ ls. anchor_in code < length ls) c.deref.ensures.value c.in_ok-get.ensures.lookup.3.0 in
    let is : list ≡ get_or lists (anchor_in code) list
    = subst (λ ls. list ≡ get_or ls (anchor_in code) list) c.deref.ensures.value c.in_ok-get.ensures.lookup.1 in
    c.find.ensures ∙ ap (λ rooms. entry_at code (entries_in slots rooms))
    (c.deref-in_ok-get.ensures.value ∙ sym (rooms-read lists (anchor_in code) list inside is))
    ∙ sym (found-at slots (rooms_of lists) c.self.invariant code) ∙ ap (λ (q : Queue). entry_at code q.entries) c.self.view_is
