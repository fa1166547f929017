use Rattle.std.proofs.Common.{◌≢◌, List, map, sym, subst, ap, ◌∙◌}
use Rattle.std.specs.List.{All}
use Rattle.kmc_base.specs.Entries.{chosen as chosen_of}
use Rattle.kmc_base.specs.declared.entry.Entry.{Entry}
use Rattle.process_queue.proofs.SiteRooms.{chosen-real, distinct-site}
use Rattle.process_queue.specs.Filing.{entries_in}
use Rattle.process_queue.specs.declared.lead.TheConstants.{NO_CODE}
use Rattle.process_queue.proofs.renewal.renew_anchor.Goals as goal

pub refile-requires-clause-distinct : goal.refile-requires-clause-distinct
refile-requires-clause-distinct c =
    distinct-site c.args.rooms.now.slab.slots c.args.part.now.anchor.0 c.args.list.now.items c.requires.site

pub refile-requires-clause-codes : goal.refile-requires-clause-codes
refile-requires-clause-codes c =
    let seen = c.deref-2.ensures.value ∙ c.choose.ensures.value
    ∙ ap (λ (fresh : List Entry). map (chosen_of (entries_in c.args.rooms.now.slab.slots c.deref.result.now) c.args.fired) fresh) c.as_slice.ensures in
    subst (λ (es : List Entry). All (λ (e : Entry). e.code ≢ NO_CODE) es) (sym seen)
    (chosen-real (entries_in c.args.rooms.now.slab.slots c.deref.result.now) c.args.fired c.args.part.now c.requires.part c.requires.anchor)
