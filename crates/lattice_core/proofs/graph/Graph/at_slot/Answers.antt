use Rattle.std.proofs.Common.{◌∙◌, ap, slice_get}
use Rattle.std.specs.List.Sorted.{IsStrictlyIncreasing}
use Rattle.lattice_core.specs.Lattice.{neighbours_of}
use Rattle.lattice_core.proofs.Places.{position-site}
use Rattle.lattice_core.proofs.graph.Graph.at_slot.Goals as goal

pub returns-clause-inverse : goal.returns-clause-inverse
returns-clause-inverse c =
    let ns = neighbours_of c.args.self.now c.args.s.0 in
    let is = c.neighbours.ensures.value in
    let rising : IsStrictlyIncreasing ns = rw is at c.neighbours.ensures.rising in
    position-site ns c.site_in.result c.args.slot rising (c.site_in.ensures ∙ ap (λ l. slice_get l c.args.slot) is)
