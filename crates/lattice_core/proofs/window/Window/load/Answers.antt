use Rattle.std.proofs.Common.{◌≡◌, ◌<◌, ◌∙◌, [], ◌∷◌, All, length, map, sym, ap, subst}
use Rattle.std.proofs.lemmas.List.{length-map}
use Rattle.kmc_base.specs.declared.ids.SiteId.{SiteId}
use Rattle.lattice_core.specs.declared.state.State.TheVariants.{Vacant}
use Rattle.lattice_core.specs.Ball.{ball}
use Rattle.lattice_core.specs.Config.{state_at}
use Rattle.lattice_core.specs.SiteList.{site_numbers}
use Rattle.lattice_core.proofs.Balls.{ball-rising, ball-below}
use Rattle.lattice_core.proofs.Places.{get_or-place}
use Rattle.lattice_core.proofs.window.Window.load.Goals as goal

pub read_states-requires : goal.read_states-requires
read_states-requires g c =
    let sites = ball c.args.graph.now (c.args.anchor.0 ∷ []) c.args.radius in
    let is : site_numbers c.deref.result.now ≡ sites = ap site_numbers c.deref.ensures.value ∙ c.in_ok-sites.ensures.ball in
    subst (All (λ s. s < length c.args.config.now)) (sym is)
    (subst (λ n. All (λ s. s < n) sites) (sym c.requires.configuration) (ball-below c.args.graph.now (c.args.anchor.0 ∷ []) c.args.radius))

pub invariant_of-self-2 : goal.invariant_of-self-2
invariant_of-self-2 g c = (
  rw c.in_ok-sites.ensures.ball (ball-rising c.args.graph.now (c.args.anchor.0 ∷ []) c.args.radius),
  ap length c.in_ok-states.ensures.states
      ∙ length-map (site_numbers c.deref.result.now) (state_at c.args.config.now)
      ∙ length-map c.deref.result.now (λ (s : SiteId). s.0)
      ∙ ap length c.deref.ensures.value,
)

pub returns-clause-shows : goal.returns-clause-shows
returns-clause-shows g c = λ s inside.
    get_or-place (state_at c.args.config.now) (site_numbers c.in_ok-sites.sites.items) c.in_ok-states.states.items s Vacant
    (c.in_ok-states.ensures.states ∙ ap (λ l. map (state_at c.args.config.now) (site_numbers l)) c.deref.ensures.value) inside
