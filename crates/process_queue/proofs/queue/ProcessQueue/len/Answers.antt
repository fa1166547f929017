use Rattle.std.proofs.Common.{length, ap, subst, ◌∙◌}
use Rattle.kmc_base.specs.Entries.{IsRising, codes_of}
use Rattle.process_queue.proofs.IndexedRooms.{rising-all}
use Rattle.process_queue.proofs.QueueEntries.{length-entries}
use Rattle.process_queue.specs.Filing.{rooms_of}
use Rattle.process_queue.specs.Queue.{Queue}
use Rattle.process_queue.proofs.queue.ProcessQueue.len.Goals as goal

pub returns-clause-value : goal.returns-clause-value
returns-clause-value c =
    c.len.ensures ∙ length-entries c.self.inside.rooms.slab ∙ ap (λ (q : Queue). length q.entries) c.self.view_is

pub returns-clause-rising : goal.returns-clause-rising
returns-clause-rising c =
    subst (λ (q : Queue). IsRising (codes_of q.entries)) c.self.view_is
    (rising-all c.self.inside.rooms.slab.slots (rooms_of c.self.inside.lists.items) c.self.invariant)
