use Rattle.std.proofs.Common.{◌≡◌, ◌<◌, ◌≤◌, ◌+◌, ◌∙◌, length, get_or, set, drop, slice_index, ap, sym, subst, arith}
use Rattle.std.proofs.lemmas.List.{length-map, length-set}
use Rattle.kmc_base.specs.declared.ids.SiteId.{SiteId}
use Rattle.lattice_core.specs.Config.{state_at, state_among, held, put, IsWellFormed, IsWholeAdsorbate}
use Rattle.lattice_core.specs.SiteList.{site_numbers}
use Rattle.lattice_core.proofs.Adsorbates.{put-is, among_more, among_all, put-well_formed, put-whole}
use Rattle.lattice_core.proofs.Finding.{number_of, number_of-is, All-number}
use Rattle.lattice_core.proofs.config.Config.set.Goals as goal
use Rattle.lattice_core.proofs.config.Config.set.Goals.{After-loop-place, After-write}

pub write-requires : goal.write-requires
write-requires c =
    omega (
      arith,
      All-number (λ s. s < length c.args.self.now) c.args.sites.now c.loop-place.place (omega arith)
          c.requires.inside,
      c.loop-place.invariant.same_length,
    )

-- what this turn wrote
written : (c : After-write)
    → c.write.new.self ≡ set c.loop-place.self (get_or (site_numbers c.args.sites.now) c.loop-place.place 0)
    (held c.args.species.0 (c.loop-place.place + 1) (slice_index (site_numbers c.args.sites.now) 0))
written c =
    let sites = c.args.sites.now in
    let here = number_of-is sites c.loop-place.place (omega arith) in
    let home = number_of-is sites 0 (omega (arith, c.requires.has_a_site)) in
    c.write.ensures
    ∙ ap (λ x. set c.loop-place.self x (held c.args.species.0 (c.loop-place.place + 1) (number_of sites 0))) (sym here.1)
    ∙ ap (λ h. set c.loop-place.self (get_or (site_numbers sites) c.loop-place.place 0)
    (held c.args.species.0 (c.loop-place.place + 1) h)) (sym home.1)

pub loop-place-preserved : goal.loop-place-preserved
loop-place-preserved c =
    let i = c.loop-place.place in
    let ns = site_numbers c.args.sites.now in
    let home = slice_index ns 0 in
    let here = number_of-is c.args.sites.now i (omega arith) in
    let inside = c.requires.inside i 0 here.0 in
    let wrote = written (goal.at.loop-place-preserved c).After-write in
    record {
      same_length = ap length c.write.ensures ∙ length-set _ _ _ ∙ c.loop-place.invariant.same_length;
      states = λ s. ap (λ l. state_among c.args.species.0 home (i + 1 + 1) (drop (i + 1) ns) s (state_at l s)) wrote
          ∙ among_more c.args.species.0 home i ns c.loop-place.self s here.0
          (omega (arith, inside, c.loop-place.invariant.same_length)) c.requires.different
          ∙ c.loop-place.invariant.states s;
    }

-- the adsorbate is on all its sites
done : (c : After-loop-place) → length c.args.sites.now ≤ c.loop-place.place
    → c.loop-place.self ≡ put c.args.self.now c.args.species.0 (site_numbers c.args.sites.now)
done c past =
    let ns = site_numbers c.args.sites.now in
    let long : length ns ≤ c.loop-place.place = omega (arith, length-map c.args.sites.now (λ (s : SiteId). s.0)) in
    put-is c.args.self.now c.loop-place.self c.args.species.0 ns c.loop-place.invariant.same_length
    (λ s. sym (among_all c.args.species.0 (slice_index ns 0) c.loop-place.place ns s (state_at c.loop-place.self s)
    long) ∙ c.loop-place.invariant.states s)

pub returns-clause-states : goal.returns-clause-states
returns-clause-states c = done (goal.at.returns-clause-states c).After-loop-place c.loop-place-test.false

pub returns-clause-well_formed : goal.returns-clause-well_formed
returns-clause-well_formed c = λ dentates count sound.
    let ns = site_numbers c.args.sites.now in
    let lengths = length-map c.args.sites.now (λ (s : SiteId). s.0) in
    subst (IsWellFormed dentates) (sym (done (goal.at.returns-clause-well_formed c).After-loop-place c.loop-place-test.false))
    (put-well_formed c.args.self.now c.args.species.0 ns c.requires.different c.requires.inside c.requires.vacant
    (omega (arith, lengths, c.requires.has_a_site)) dentates (count ∙ sym lengths) sound)

pub returns-clause-whole : goal.returns-clause-whole
returns-clause-whole c = λ dentates sound.
    let ns = site_numbers c.args.sites.now in
    let lengths = length-map c.args.sites.now (λ (s : SiteId). s.0) in
    subst (λ states. IsWholeAdsorbate states ns) (sym (done (goal.at.returns-clause-whole c).After-loop-place c.loop-place-test.false))
    (put-whole c.args.self.now c.args.species.0 ns c.requires.different c.requires.inside c.requires.vacant
    (omega (arith, lengths, c.requires.has_a_site)) dentates sound)
