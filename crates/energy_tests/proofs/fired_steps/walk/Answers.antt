use Rattle.std.proofs.Common.{◌≡◌, ℕ, ◌<◌, List, length, slice_index, ap, refl, sym, ◌∙◌, subst, arith}
use Rattle.firing.specs.Firing.{CanFire}
use Rattle.kmc_base.specs.declared.ids.SiteId.{SiteId}
use Rattle.lattice_core.specs.Config.{state_at}
use Rattle.lattice_core.specs.SiteList.{site_numbers}
use Rattle.pattern_types.specs.declared.wanted.Wanted.{Wanted}
use Rattle.rate_rules.proofs.SideStates.{long-as}
use Rattle.energy_tests.proofs.Listed.{can_fire, listed}
use Rattle.energy_tests.proofs.fired_steps.walk.Goals as goal

pub fire-requires : goal.fire-requires
fire-requires g c =
    let before = c.in-Some.before in
    let after = c.in-Some-whole_side.after in
    let states = c.args.config.now in
    let inside : 0 < length c.in_ok-found.found.items =
    subst (λ (n : ℕ). 0 < n) (c.len.ensures ∙ c.in_ok-found.found.ok.0) (omega (arith, c.if-len-ne1.false)) in
    let parts = listed c.args.graph.now (state_at states) before c.in_ok-found.found.items 0 c.index.result.now
    c.in_ok-found.ensures.listing inside c.index.ensures in
    let same = ap (λ (wanted : List Wanted). length wanted) c.in-Some-whole_side.ensures.wanted
    ∙ sym (ap (λ (wanted : List Wanted). length wanted) c.in-Some.ensures.wanted) in
    subst (λ (sites : List SiteId). CanFire before after (site_numbers sites) states) (sym c.sites.ensures.value)
    (can_fire c.args.graph.now before after states (λ s. slice_index c.args.dentates.now s) (site_numbers c.index.result.now)
    c.in-Some.ensures.sound c.in-Some.ensures.dentates c.in-Some-whole_side.ensures.sound same c.requires.long c.requires.well_formed
    parts.0 parts.1)

pub returns : goal.returns
returns g c = long-as _ _ c.fire.new.config (length c.args.config.now) c.fire.ensures.states refl
