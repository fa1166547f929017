use Rattle.std.proofs.Common.{◌≡◌, ◌≤◌, ◌∙◌, cond, length, take, ap, sym, subst, arith}
use Rattle.std.proofs.lemmas.List.{length-map, length-set, take_all}
use Rattle.kmc_base.specs.declared.ids.SiteId.{SiteId}
use Rattle.lattice_core.specs.declared.state.State.TheVariants.{Vacant}
use Rattle.lattice_core.specs.Config.{state_at, cleared, IsWellFormed}
use Rattle.lattice_core.specs.SiteList.{site_numbers, is_listed}
use Rattle.lattice_core.proofs.Adding.{is_listed-more}
use Rattle.lattice_core.proofs.Adsorbates.{cleared-is, cleared_step, cleared-well_formed, whole_inside}
use Rattle.lattice_core.proofs.Finding.{number_of, number_of-is, listed_number}
use Rattle.lattice_core.proofs.config.Config.clear.Goals as goal
use Rattle.lattice_core.proofs.config.Config.clear.Goals.{After-loop-site}

pub write-requires : goal.write-requires
write-requires c =
    let listed = listed_number c.args.sites.now c.loop-site.site-index (omega arith) in
    omega (arith, whole_inside c.args.self.now (site_numbers c.args.sites.now) c.requires _ listed, c.loop-site.invariant.same_length)

pub loop-site-preserved : goal.loop-site-preserved
loop-site-preserved c =
    let i = c.loop-site.site-index in
    let ns = site_numbers c.args.sites.now in
    let x = number_of c.args.sites.now i in
    let is = number_of-is c.args.sites.now i (omega arith) in
    let listed = listed_number c.args.sites.now i (omega arith) in
    let within = whole_inside c.args.self.now ns c.requires x listed in
    record {
      same_length = ap length c.write.ensures ∙ length-set _ _ _ ∙ c.loop-site.invariant.same_length;
      states = λ s. ap (λ l. state_at l s) c.write.ensures
          ∙ cleared_step c.loop-site.self c.args.self.now x s (is_listed (take i ns) s)
          (omega (arith, within, c.loop-site.invariant.same_length)) (c.loop-site.invariant.states s)
          ∙ ap (λ b. cond b Vacant (state_at c.args.self.now s)) (is_listed-more ns i x s is.0 is.1);
    }

-- all the sites are vacant
done : (c : After-loop-site) → length c.args.sites.now ≤ c.loop-site.site-index
    → c.loop-site.self ≡ cleared c.args.self.now (site_numbers c.args.sites.now)
done c past =
    let ns = site_numbers c.args.sites.now in
    let long : length ns ≤ c.loop-site.site-index = omega (arith, length-map c.args.sites.now (λ (s : SiteId). s.0)) in
    cleared-is c.args.self.now c.loop-site.self ns c.loop-site.invariant.same_length
    (λ s. c.loop-site.invariant.states s
    ∙ ap (λ l. cond (is_listed l s) Vacant (state_at c.args.self.now s))
    (take_all c.loop-site.site-index ns long))

pub returns-clause-states : goal.returns-clause-states
returns-clause-states c = done (goal.at.returns-clause-states c).After-loop-site c.loop-site-test.false

pub returns-clause-well_formed : goal.returns-clause-well_formed
returns-clause-well_formed c = λ dentates sound.
    subst (IsWellFormed dentates) (sym (done (goal.at.returns-clause-well_formed c).After-loop-site c.loop-site-test.false))
    (cleared-well_formed c.args.self.now (site_numbers c.args.sites.now) c.requires dentates sound)
