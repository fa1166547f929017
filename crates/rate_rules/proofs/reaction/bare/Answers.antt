use Rattle.std.proofs.Common.{◌≡◌, ◌<◌, ℕ, All, List, length, replicate, ap, sym, ◌∙◌, subst}
use Rattle.std.proofs.lemmas.List.{length-replicate}
use Rattle.firing.specs.Sides.{states_for, with_states}
use Rattle.firing.proofs.Placed.{with-length}
use Rattle.kmc_base.specs.declared.ids.SiteId.{SiteId}
use Rattle.lattice_core.specs.Config.{state_at}
use Rattle.lattice_core.specs.SiteList.{site_numbers}
use Rattle.lattice_core.specs.declared.state.State.{State}
use Rattle.lattice_core.specs.declared.state.State.TheVariants.{Vacant}
use Rattle.rate_rules.proofs.SideStates.{bare-states}
use Rattle.rate_rules.proofs.reaction.bare.Goals as goal
use Rattle.rate_rules.proofs.reaction.bare.Goals.{After-set_side}

-- what the code has made
made : (c : After-set_side) → c.set_side.new.config
    ≡ with_states (states_for c.args.side.now (site_numbers c.args.placement.now)) (replicate c.len.result Vacant)
made c =
    c.set_side.ensures.states
    ∙ ap (λ (sites : List SiteId). with_states (states_for c.args.side.now (site_numbers sites)) c.in_ok-config.config) c.sites.ensures.value
    ∙ ap (with_states (states_for c.args.side.now (site_numbers c.args.placement.now))) c.in_ok-config.ensures.states

pub returns-clause-long : goal.returns-clause-long
returns-clause-long c =
    let vacant : List State = replicate c.len.result Vacant in
    ap length (made c) ∙ with-length (states_for c.args.side.now (site_numbers c.args.placement.now)) vacant
    ∙ length-replicate c.len.result Vacant ∙ c.len.ensures.count

pub returns-clause-states : goal.returns-clause-states
returns-clause-states c =
    ap state_at (made c)
    ∙ bare-states c.args.side.now (site_numbers c.args.placement.now) c.len.result c.requires.different
    (subst (λ (n : ℕ). All (λ s. s < n) (site_numbers c.args.placement.now)) (sym c.len.ensures.count) c.requires.inside)
