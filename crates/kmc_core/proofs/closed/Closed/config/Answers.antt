use Rattle.std.proofs.Common.{◌∙◌, List, ap, length, subst, sym}
use Rattle.deck.specs.Soundness.{dentates_in}
use Rattle.lattice_core.specs.Config.{IsWellFormed}
use Rattle.lattice_core.specs.Lattice.{site_count}
use Rattle.lattice_core.specs.declared.state.State.{State}
use Rattle.kmc_core.proofs.Runs.{closed-well}
use Rattle.kmc_core.specs.Run.{ClosedRun}
use Rattle.kmc_core.proofs.closed.Closed.config.Goals as goal

pub returns-clause-sites : goal.returns-clause-sites
returns-clause-sites c =
    ap length c.config.ensures ∙ (closed-well c.self.inside.deck c.self.inside.event _ _ c.self.invariant).sites
    ∙ ap (λ (r : ClosedRun). site_count r.deck.chem.graph) c.self.view_is

pub returns-clause-well_formed : goal.returns-clause-well_formed
returns-clause-well_formed c =
    subst (λ (r : ClosedRun). IsWellFormed (dentates_in r.deck.book) c.config.result.now) c.self.view_is
    (subst (λ (states : List State). IsWellFormed (dentates_in c.self.inside.deck.book) states) (sym c.config.ensures)
    c.self.invariant.within.well_formed)
