use Rattle.std.proofs.Common.{◌≡◌, ◌≢◌, ℕ, ◌+◌, ◌-◌, ◌∙◌, ◌<◌, ◌≤◌, AllPairs, length, get_or, set, take, ap, sym, subst, arith}
use Rattle.std.proofs.lemmas.List.{length-map, length-set, take_all}
use Rattle.firing.specs.Sides.{states_for}
use Rattle.firing.proofs.GivenPairs.{given_count, given_different, given_more, written_is}
use Rattle.firing.proofs.Wants.{want_read}
use Rattle.kmc_base.specs.declared.ids.SiteId.{SiteId}
use Rattle.lattice_core.specs.SiteList.{site_numbers}
use Rattle.lattice_core.specs.declared.state.State.{State}
use Rattle.lattice_core.proofs.Finding.{number_of-is}
use Rattle.firing.proofs.given.given_states.Goals as goal
use Rattle.firing.proofs.given.given_states.Goals.{After-loop-vertex}

pub loop-vertex-preserved : goal.loop-vertex-preserved
loop-vertex-preserved c =
    let k = c.loop-vertex.vertex - 1 in
    let side = c.args.side.now in
    let sites = site_numbers c.args.sites.now in
    let at = c.loop-vertex.invariant in
    let place : c.from-place.result - 1 ≡ k = ap (λ n. n - 1) c.from-place.ensures in
    let next : k + 1 ≡ c.loop-vertex.vertex + 1 - 1 = omega arith in
    let within : k < length c.args.sites.now = omega (arith, c.len-vertex-end.ensures.value, c.requires) in
    let written : SiteId × State = (get_or c.args.sites.now (c.from-place.result - 1) (record { 0 = 0 }), c.state_for-state.result) in
    let is = written_is side c.args.sites.now k (c.from-place.result - 1) c.wanted.result c.state_for-state.result place within
    (want_read side.wanted k c.wanted.result c.wanted.ensures) c.state_for-state.ensures in
    let numbered = number_of-is c.args.sites.now k within in
    let long = length-map c.args.sites.now (λ (s : SiteId). s.0) ∙ c.requires in
    let most = c.len-vertex-end.ensures.sound.few in
    let low : k < length c.loop-vertex.pairs = omega (arith, at.count, most, c.len-vertex-end.ensures.value) in
    record {
      count = length-set _ _ _ ∙ at.count;
      states = subst (λ (n : ℕ). take n (set c.loop-vertex.pairs (c.from-place.result - 1) written) ≡ take n (states_for side sites)) next
          (ap (λ n. take (k + 1) (set c.loop-vertex.pairs n written)) place
          ∙ given_more side sites long c.loop-vertex.pairs k written low numbered.0 at.states is);
    }

-- the pairs are those of the side
done : (c : After-loop-vertex) → length c.args.side.now.wanted ≤ c.loop-vertex.vertex - 1 → c.loop-vertex.vertex - 1 ≤ length c.args.side.now.wanted
    → take (length c.args.sites.now) c.loop-vertex.pairs ≡ states_for c.args.side.now (site_numbers c.args.sites.now)
done c past within =
    let k = c.loop-vertex.vertex - 1 in
    let side = c.args.side.now in
    let sites = site_numbers c.args.sites.now in
    let numbered = length-map c.args.sites.now (λ (s : SiteId). s.0) in
    let count = given_count side sites (numbered ∙ c.requires) in
    let many : length c.args.sites.now ≡ k = omega (arith, c.requires) in
    ap (λ n. take n c.loop-vertex.pairs) many
    ∙ c.loop-vertex.invariant.states
    ∙ take_all k (states_for side sites) (omega (arith, count, numbered))

pub returns-clause-states : goal.returns-clause-states
returns-clause-states c =
    let past : length c.args.side.now.wanted ≤ c.loop-vertex.vertex - 1 = omega (arith, c.len-vertex-end.ensures.value) in
    let within : c.loop-vertex.vertex - 1 ≤ length c.args.side.now.wanted = omega (
      arith,
      c.len-vertex-end.ensures.value,
      c.loop-vertex.auto.vertex-end,
    ) in
    done (goal.at.returns-clause-states c).After-loop-vertex past within

pub returns-clause-different : goal.returns-clause-different
returns-clause-different c = λ different.
    let past : length c.args.side.now.wanted ≤ c.loop-vertex.vertex - 1 = omega (arith, c.len-vertex-end.ensures.value) in
    let within : c.loop-vertex.vertex - 1 ≤ length c.args.side.now.wanted = omega (
      arith,
      c.len-vertex-end.ensures.value,
      c.loop-vertex.auto.vertex-end,
    ) in
    let numbered = length-map c.args.sites.now (λ (s : SiteId). s.0) in
    subst (AllPairs (λ p q. p.0.0 ≢ q.0.0)) (sym (done (goal.at.returns-clause-different c).After-loop-vertex past within))
    (given_different c.args.side.now (site_numbers c.args.sites.now) (numbered ∙ c.requires) different)
