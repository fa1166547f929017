use Rattle.std.proofs.Common.{◌∙◌, ap, sym}
use Rattle.kmc_base.specs.Entries.{first_of_two, least as least_of}
use Rattle.kmc_core.proofs.FirstFirings.{least-pushed}
use Rattle.kmc_core.proofs.entries.Entries.push.Goals as goal

pub invariant_of-self-2 : goal.invariant_of-self-2
invariant_of-self-2 c =
    c.first-self-inside.ensures
    ∙ ap (λ m. first_of_two m c.firing.result) c.self.invariant
    ∙ ap (first_of_two (least_of c.self.inside.items.items)) c.firing.ensures
    ∙ sym (least-pushed c.self.inside.items.items c.args.entry)
    ∙ ap least_of (sym c.in_ok-push.ensures.items)
