use Rattle.std.proofs.Common.{◌≤◌, arith, length}
use Rattle.std.proofs.lemmas.List.{length-map}
use Rattle.kmc_base.specs.declared.ids.SiteId.{SiteId}
use Rattle.lattice_core.specs.declared.graph.TheConstants.{MAX_NEIGHBOURS}
use Rattle.lattice_core.specs.SiteList.{site_numbers}
use Rattle.lattice_core.proofs.graph.Graph.neighbours.Goals as goal

pub returns-clause-rising : goal.returns-clause-rising
returns-clause-rising c = rw c.list_at.ensures (rw c.deref.ensures.value (c.self.invariant.rising c.args.s.0))

pub returns-clause-few : goal.returns-clause-few
returns-clause-few c =
    let few : length (site_numbers c.list_at.result.now) ≤ MAX_NEIGHBOURS =
    rw c.list_at.ensures (rw c.deref.ensures.value (c.self.invariant.few c.args.s.0)) in
    omega (arith, few, length-map c.list_at.result.now (λ (s : SiteId). s.0))
