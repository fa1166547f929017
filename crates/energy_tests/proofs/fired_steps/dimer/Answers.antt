use Rattle.std.proofs.Common.{◌≡◌, ℕ, List, length, replicate, slice_index, ap, ◌∙◌}
use Rattle.std.proofs.lemmas.List.{length-replicate}
use Rattle.lattice_core.specs.declared.state.State.{State}
use Rattle.lattice_core.specs.declared.state.State.TheVariants.{Vacant}
use Rattle.rate_rules.proofs.SideStates.{long-as}
use Rattle.energy_tests.proofs.fired_steps.dimer.Goals as goal

pub returns-clause-long : goal.returns-clause-long
returns-clause-long c =
    long-as _ _ c.set_side.new.config 4 c.set_side.ensures.states
    (ap (λ (states : List State). length states) c.in_ok-config.ensures.states ∙ length-replicate 4 Vacant)

pub returns-clause-well_formed : goal.returns-clause-well_formed
returns-clause-well_formed c =
    c.set_side.ensures.well_formed (λ s. slice_index c.args.dentates.now s) c.in-Some.ensures.dentates
    (c.in_ok-config.ensures.well_formed (λ s. slice_index c.args.dentates.now s))
