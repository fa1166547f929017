use Rattle.std.proofs.Common.{◌≡◌, ◌≢◌, ℕ, ◌+◌, ◌-◌, ◌∙◌, ◌<◌, ◌≤◌, All, AllPairs, length, ap, sym, subst, arith}
use Rattle.firing.specs.Entities.{entity_sites, first_of}
use Rattle.firing.specs.Firing.{set_side}
use Rattle.firing.proofs.EachEntity.{done_all, done_until, done_with, done_without, inside_next, set_entity, set_states, set_well_formed, vacant_next}
use Rattle.firing.proofs.EntitySites.{own_different, own_some}
use Rattle.firing.proofs.Wants.{first_from, want_at, want_read}
use Rattle.lattice_core.specs.Config.{IsWellFormed, put, state_at}
use Rattle.lattice_core.specs.SiteList.{site_numbers}
use Rattle.lattice_core.specs.declared.state.State.TheVariants.{Vacant}
use Rattle.pattern_types.specs.declared.wanted.Wanted.TheVariants.{Holds}
use Rattle.std.proofs.lemmas.List.{length-map}
use Rattle.kmc_base.specs.declared.ids.SiteId.{SiteId}
use Rattle.firing.proofs.firing.set_side.Goals as goal
use Rattle.firing.proofs.firing.set_side.Goals.{After-sites, After-loop-vertex, in-Some, in_default}

-- the vertex wants dentate 1 of the entity, and its sites are those that are given
begun : (c : After-sites) → want_at c.args.side.now.wanted (c.loop-vertex.vertex - 1) ≡ Holds c.in-Some.entity c.in-Some.species 1
begun c =
    first_from _ (c.in-Some.entity, c.in-Some.species)
    (ap first_of (want_read c.args.side.now.wanted (c.loop-vertex.vertex - 1) c.wanted.result c.wanted.ensures)
    ∙ sym c.first_of.ensures ∙ c.in-Some.is)

own : (c : After-sites) → site_numbers c.sites.result.now ≡ entity_sites c.in-Some.entity c.args.side.now.wanted (site_numbers c.args.sites.now)
own c = ap site_numbers c.sites.ensures.value ∙ c.entity_sites.ensures

pub set-requires-clause-has_a_site : goal.set-requires-clause-has_a_site
set-requires-clause-has_a_site c =
    let placed = c.requires.placed in
    let a = (goal.at.set-requires-clause-has_a_site c).After-sites in
    let some = own_some c.args.side.now c.requires.sound (site_numbers c.args.sites.now) placed.vertices placed.different
    (c.loop-vertex.vertex - 1) c.in-Some.entity c.in-Some.species (begun a) in
    let number : SiteId → ℕ = λ s. s.0 in
    omega (arith, some, ap length (own a), length-map c.sites.result.now number)

pub set-requires-clause-inside : goal.set-requires-clause-inside
set-requires-clause-inside c =
    let a = (goal.at.set-requires-clause-inside c).After-sites in
    let side = c.args.side.now in
    let sites = site_numbers c.args.sites.now in
    subst (All (λ s. s < length c.loop-vertex.config)) (sym (own a))
    (subst (λ states. All (λ s. s < length states) (entity_sites c.in-Some.entity side.wanted sites)) (sym c.loop-vertex.invariant)
    (inside_next side sites c.args.config.now c.requires (c.loop-vertex.vertex - 1) (c.in-Some.entity, c.in-Some.species) (begun a)))

pub set-requires-clause-different : goal.set-requires-clause-different
set-requires-clause-different c =
    let placed = c.requires.placed in
    let a = (goal.at.set-requires-clause-different c).After-sites in
    subst (AllPairs (λ s t. s ≢ t)) (sym (own a))
    (own_different c.args.side.now c.requires.sound (site_numbers c.args.sites.now) placed.vertices placed.different
    (c.loop-vertex.vertex - 1) c.in-Some.entity c.in-Some.species (begun a))

pub set-requires-clause-vacant : goal.set-requires-clause-vacant
set-requires-clause-vacant c =
    let a = (goal.at.set-requires-clause-vacant c).After-sites in
    let side = c.args.side.now in
    let sites = site_numbers c.args.sites.now in
    subst (All (λ s. state_at c.loop-vertex.config s ≡ Vacant)) (sym (own a))
    (subst (λ states. All (λ s. state_at states s ≡ Vacant) (entity_sites c.in-Some.entity side.wanted sites)) (sym c.loop-vertex.invariant)
    (vacant_next side sites c.args.config.now c.requires (c.loop-vertex.vertex - 1) (c.in-Some.entity, c.in-Some.species) (begun a)))

pub loop-vertex-preserved : goal.loop-vertex-preserved
loop-vertex-preserved c =
    let k = c.loop-vertex.vertex - 1 in
    let side = c.args.side.now in
    let step = set_entity side (site_numbers c.args.sites.now) in
    let old = c.args.config.now in
    let within : k < length side.wanted = omega (arith, c.len-vertex-end.ensures.value) in
    let next : k + 1 ≡ c.loop-vertex.vertex + 1 - 1 = omega arith in
    let read = ap first_of (want_read side.wanted k c.wanted.result c.wanted.ensures) ∙ sym c.first_of.ensures in
    subst (λ (n : ℕ). c.match-first_of.config ≡ done_until step side.wanted n old) next
    (elim c.match-first_of.branch [
      | in-Some w ↦
          let own = ap site_numbers w.sites.ensures.value ∙ w.entity_sites.ensures in
          w.config-is
          ∙ w.set.ensures.states
          ∙ ap (put c.loop-vertex.config w.in-Some.species.0) own
          ∙ ap (λ states. put states w.in-Some.species.0 (entity_sites w.in-Some.entity side.wanted (site_numbers c.args.sites.now)))
          c.loop-vertex.invariant
          ∙ sym (done_with step side.wanted old k within _ (read ∙ w.in-Some.is))
      | in_default w ↦ w.config-is ∙ c.loop-vertex.invariant ∙ sym (done_without step side.wanted old k within (read ∙ w.in_default.is))
    ])

-- the entities are on
done : (c : After-loop-vertex) → length c.args.side.now.wanted ≤ c.loop-vertex.vertex - 1
    → c.loop-vertex.config ≡ set_side c.args.side.now (site_numbers c.args.sites.now) c.args.config.now
done c past =
    let side = c.args.side.now in
    c.loop-vertex.invariant ∙ done_all (set_entity side (site_numbers c.args.sites.now)) side.wanted c.args.config.now (c.loop-vertex.vertex - 1) past

pub returns-clause-states : goal.returns-clause-states
returns-clause-states c =
    let past : length c.args.side.now.wanted ≤ c.loop-vertex.vertex - 1 = omega (arith, c.len-vertex-end.ensures.value) in
    done (goal.at.returns-clause-states c).After-loop-vertex past
    ∙ set_states c.args.side.now (site_numbers c.args.sites.now) c.args.config.now c.requires

pub returns-clause-well_formed : goal.returns-clause-well_formed
returns-clause-well_formed c = λ dentates has well_formed.
    let past : length c.args.side.now.wanted ≤ c.loop-vertex.vertex - 1 = omega (arith, c.len-vertex-end.ensures.value) in
    subst (IsWellFormed dentates) (sym (done (goal.at.returns-clause-well_formed c).After-loop-vertex past))
    (set_well_formed c.args.side.now (site_numbers c.args.sites.now) c.args.config.now c.requires dentates has well_formed)
