use Rattle.std.proofs.Common.{◌≡◌, ℕ, ◌+◌, ◌-◌, ◌∙◌, ◌<◌, ◌≤◌, length, ap, sym, subst, arith}
use Rattle.firing.specs.Entities.{entity_sites, first_of}
use Rattle.firing.proofs.EachEntity.{clear_entity, done_all, done_until, done_with, done_without, whole_next}
use Rattle.firing.proofs.Wants.{first_from, want_read}
use Rattle.lattice_core.specs.Config.{IsWholeAdsorbate, cleared}
use Rattle.lattice_core.specs.SiteList.{site_numbers}
use Rattle.firing.proofs.firing.clear_side.Goals as goal
use Rattle.firing.proofs.firing.clear_side.Goals.{in-Some, in_default}

pub clear-requires : goal.clear-requires
clear-requires c =
    let k = c.loop-vertex.vertex - 1 in
    let side = c.args.side.now in
    let sites = site_numbers c.args.sites.now in
    let begun = ap first_of (want_read side.wanted k c.wanted.result c.wanted.ensures) ∙ sym c.first_of.ensures ∙ c.in-Some.is in
    let own = ap site_numbers c.sites.ensures.value ∙ c.entity_sites.ensures in
    let whole = whole_next side sites c.args.config.now c.requires k _ (first_from _ _ begun) in
    subst (IsWholeAdsorbate c.loop-vertex.config) (sym own)
    (subst (λ states. IsWholeAdsorbate states (entity_sites c.in-Some.entity side.wanted sites)) (sym c.loop-vertex.invariant) whole)

pub loop-vertex-preserved : goal.loop-vertex-preserved
loop-vertex-preserved c =
    let k = c.loop-vertex.vertex - 1 in
    let side = c.args.side.now in
    let step = clear_entity side (site_numbers c.args.sites.now) in
    let old = c.args.config.now in
    let within : k < length side.wanted = omega (arith, c.len-vertex-end.ensures.value) in
    let next : k + 1 ≡ c.loop-vertex.vertex + 1 - 1 = omega arith in
    let read = ap first_of (want_read side.wanted k c.wanted.result c.wanted.ensures) ∙ sym c.first_of.ensures in
    subst (λ (n : ℕ). c.match-first_of.config ≡ done_until step side.wanted n old) next
    (elim c.match-first_of.branch [
      | in-Some w ↦
          let own = ap site_numbers w.sites.ensures.value ∙ w.entity_sites.ensures in
          w.config-is
          ∙ w.clear.ensures.states
          ∙ ap (cleared c.loop-vertex.config) own
          ∙ ap (λ states. cleared states (entity_sites w.in-Some.entity side.wanted (site_numbers c.args.sites.now))) c.loop-vertex.invariant
          ∙ sym (done_with step side.wanted old k within _ (read ∙ w.in-Some.is))
      | in_default w ↦ w.config-is ∙ c.loop-vertex.invariant ∙ sym (done_without step side.wanted old k within (read ∙ w.in_default.is))
    ])

pub returns : goal.returns
returns c =
    let side = c.args.side.now in
    let past : length side.wanted ≤ c.loop-vertex.vertex - 1 = omega (arith, c.len-vertex-end.ensures.value) in
    c.loop-vertex.invariant ∙ done_all (clear_entity side (site_numbers c.args.sites.now)) side.wanted c.args.config.now (c.loop-vertex.vertex -
    1) past
