use Rattle.std.proofs.Common.{ap, ◌∙◌}
use Rattle.kmc_base.specs.Entries.{least as least_of}
use Rattle.slab.specs.Slab.{values}
use Rattle.process_queue.proofs.Leads.{root-least}
use Rattle.process_queue.specs.LeadTree.{lead_at}
use Rattle.process_queue.specs.Rooms.{RoomList}
use Rattle.process_queue.proofs.rooms.Rooms.first.Goals as goal

pub returns : goal.returns
returns c =
    c.lead_at.ensures.value ∙ ap (λ leads. lead_at leads 0) c.deref.ensures.value
    ∙ root-least c.self.inside.slab.slots c.self.inside.leads.items c.self.invariant.right
    ∙ ap (λ (r : RoomList). least_of (values r.slab)) c.self.view_is
