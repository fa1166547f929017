use Rattle.std.proofs.Common.{◌≡◌, List, sym, subst, arith, IfOk, to_z, of_z, w64}
use Rattle.std.proofs.lemmas.Int.{ints}
use Rattle.firing.specs.Firing.{CanFire}
use Rattle.firing.specs.Sides.{states_for}
use Rattle.kmc_base.specs.declared.ids.SiteId.{SiteId}
use Rattle.lattice_core.specs.Lattice.{site_count}
use Rattle.lattice_core.specs.SiteList.{site_numbers}
use Rattle.lattice_core.specs.declared.state.State.{State}
use Rattle.rate_rules.proofs.SideStates.{can-fire, copy-fired, forward-is, long-as, reverse-is}
use Rattle.rate_rules.proofs.reaction.whole_change.Goals as goal

pub fire-requires : goal.fire-requires
fire-requires g c =
    subst (λ (states : List State). CanFire c.args.process.now.before c.args.process.now.after (site_numbers c.sites.result.now) states)
    (sym c.in_ok-other.ensures)
    (subst (λ (sites : List SiteId). CanFire c.args.process.now.before c.args.process.now.after (site_numbers sites) c.args.config.now)
    (sym c.sites.ensures.value)
    (can-fire c.args.chem.now c.args.process.now c.args.config.now (site_numbers c.args.placement.now) c.requires))

pub difference-requires-clause-final_config : goal.difference-requires-clause-final_config
difference-requires-clause-final_config g c =
    long-as (states_for c.args.process.now.after (site_numbers c.args.placement.now)) c.args.config.now c.fire.new.config
    (site_count c.args.chem.now.graph)
    (copy-fired c.args.process.now.after c.fire.new.config c.in_ok-other.other c.args.config.now c.sites.result.now c.args.placement.now
    c.fire.ensures.states c.sites.ensures.value c.in_ok-other.ensures)
    c.requires.long

pub returns-then-process-clause-value : goal.returns-then-process-clause-value
returns-then-process-clause-value g c =
    let small = c.requires.placed.process_sound.numbers.gas in
    subst (λ x. IfOk c.difference.result (λ d. d ≡ x))
    (forward-is c.args.chem.now c.args.process.now c.args.config.now c.fire.new.config (site_numbers c.args.placement.now)
    (to_z w64 (of_z w64 c.args.process.now.gas)) c.requires
    (copy-fired c.args.process.now.after c.fire.new.config c.in_ok-other.other c.args.config.now c.sites.result.now c.args.placement.now
    c.fire.ensures.states c.sites.ensures.value c.in_ok-other.ensures)
    (omega (arith, ints)) c.if-process.true)
    c.difference.ensures.value

pub difference-requires-else-process-clause-initial : goal.difference-requires-else-process-clause-initial
difference-requires-else-process-clause-initial g c =
    long-as (states_for c.args.process.now.after (site_numbers c.args.placement.now)) c.args.config.now c.fire.new.config
    (site_count c.args.chem.now.graph)
    (copy-fired c.args.process.now.after c.fire.new.config c.in_ok-other.other c.args.config.now c.sites.result.now c.args.placement.now
    c.fire.ensures.states c.sites.ensures.value c.in_ok-other.ensures)
    c.requires.long

pub returns-clause-value : goal.returns-clause-value
returns-clause-value g c =
    let small = c.requires.placed.process_sound.numbers.gas in
    subst (λ x. IfOk c.difference-else-process.result (λ d. d ≡ x))
    (reverse-is c.args.chem.now c.args.process.now c.args.config.now c.fire.new.config (site_numbers c.args.placement.now)
    (to_z w64 (of_z w64 c.args.process.now.gas)) c.requires
    (copy-fired c.args.process.now.after c.fire.new.config c.in_ok-other.other c.args.config.now c.sites.result.now c.args.placement.now
    c.fire.ensures.states c.sites.ensures.value c.in_ok-other.ensures)
    (omega (arith, ints)) c.if-process.false)
    c.difference-else-process.ensures.value
