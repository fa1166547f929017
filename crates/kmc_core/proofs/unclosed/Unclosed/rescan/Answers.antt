use Rattle.std.proofs.Common.{◌∙◌, List, ap, length, subst, sym}
use Rattle.deck.specs.Soundness.{dentates_in}
use Rattle.lattice_core.specs.Config.{IsWellFormed}
use Rattle.lattice_core.specs.declared.state.State.{State}
use Rattle.kmc_core.proofs.Runs.{open-well}
use Rattle.kmc_core.proofs.unclosed.Unclosed.rescan.Goals as goal

pub total_energy-requires-clause-configuration : goal.total_energy-requires-clause-configuration
total_energy-requires-clause-configuration c = ap length c.config.ensures ∙ (open-well _ _ _ _ _ _ _ c.self.invariant).sites

pub renew-requires-clause-deck : goal.renew-requires-clause-deck
renew-requires-clause-deck c = (open-well _ _ _ _ _ _ _ c.self.invariant).sound

pub renew-requires-clause-configuration : goal.renew-requires-clause-configuration
renew-requires-clause-configuration c = ap length c.config-then-is_none.ensures ∙ (open-well _ _ _ _ _ _ _ c.self.invariant).sites

pub renew-requires-clause-well_formed : goal.renew-requires-clause-well_formed
renew-requires-clause-well_formed c =
    subst (λ (states : List State). IsWellFormed (dentates_in c.self.inside.deck.book) states) (sym c.config-then-is_none.ensures)
    c.self.invariant.within.well_formed

pub renew-requires-clause-time : goal.renew-requires-clause-time
renew-requires-clause-time c = (open-well _ _ _ _ _ _ _ c.self.invariant).time

pub renew-requires-clause-current : goal.renew-requires-clause-current
renew-requires-clause-current c = (open-well _ _ _ _ _ _ _ c.self.invariant).rising
