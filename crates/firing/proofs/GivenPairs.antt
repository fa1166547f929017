-- The pairs of the states that a side wants of its sites.
use Rattle.std.proofs.Common.{◌≡◌, ◌≢◌, ℕ, ◌+◌, ◌<◌, List, ◌++◌, ◌∷◌, [], length, get_or, map, set, take, AllPairs, sym, ◌∙◌, ap, arith}
use Rattle.std.proofs.lemmas.List.{get_or-map, length-map, take_more, take_more_set}
use Rattle.std.proofs.lemmas.Slice.Zip.{get_or-zip}
use Rattle.firing.specs.Sides.{sites_from, state_for, states_for}
use Rattle.firing.proofs.Placed.{next_of, zip-length}
use Rattle.firing.proofs.Wants.{want_at}
use Rattle.kmc_base.specs.declared.ids.SiteId.{SiteId}
use Rattle.lattice_core.specs.SiteList.{site_numbers}
use Rattle.lattice_core.specs.declared.state.State.{State}
use Rattle.pattern_types.specs.Parts.{PatternParts}
use Rattle.pattern_types.specs.declared.wanted.Wanted.{Wanted}
use Rattle.pattern_types.specs.declared.wanted.Wanted.TheVariants.{Any}

abbrev site_zero : SiteId
site_zero = record { 0 = 0 }

module _ (side : PatternParts) (sites : List ℕ) (long : length sites ≡ length side.wanted) where
  numbered : length (sites_from sites) ≡ length sites
  numbered = let from : ℕ → SiteId = λ s. record { 0 = s } in length-map sites from

  wanted_many : length (map (state_for side sites) side.wanted) ≡ length sites
  wanted_many = length-map side.wanted (state_for side sites) ∙ sym long

  pub given_count : length (states_for side sites) ≡ length sites
  given_count = zip-length (sites_from sites) (map (state_for side sites) side.wanted) (wanted_many ∙ sym numbered) ∙ numbered

  -- the pair of a vertex
  pub given_pair : (k : ℕ) (d : SiteId × State) → k < length sites
      → get_or (states_for side sites) k d ≡ (record { 0 = get_or sites k 0 }, next_of side sites k)
  given_pair k d low =
      let from : ℕ → SiteId = λ s. record { 0 = s } in
      let states = map (state_for side sites) side.wanted in
      let pair : SiteId → State → SiteId × State = λ s x. (s, x) in
      get_or-zip (sites_from sites) states k d (omega (arith, numbered)) (omega (arith, wanted_many))
      ∙ ap (λ s. pair s (get_or states k d.1)) (get_or-map from sites k 0 d.0 low)
      ∙ ap (pair (from (get_or sites k 0))) (get_or-map (state_for side sites) side.wanted k Any d.1 (omega arith))

  -- one more pair
  pub given_more : (pairs : List (SiteId × State)) (k : ℕ) (pair : SiteId × State) → k < length pairs → k < length sites
      → take k pairs ≡ take k (states_for side sites) → pair ≡ (record { 0 = get_or sites k 0 }, next_of side sites k)
      → take (k + 1) (set pairs k pair) ≡ take (k + 1) (states_for side sites)
  given_more pairs k pair within low before is =
      let count = given_count in
      take_more_set pairs k pair within
      ∙ ap (λ l. l ++ (pair ∷ [])) before
      ∙ ap (λ (x : SiteId × State). take k (states_for side sites) ++ (x ∷ [])) (is ∙ sym (given_pair k pair low))
      ∙ sym (take_more (states_for side sites) k pair (omega arith))

  -- different sites
  pub given_different : AllPairs (λ s t. s ≢ t) sites → AllPairs (λ p q. p.0.0 ≢ q.0.0) (states_for side sites)
  given_different different i j d below within same =
      let count = given_count in
      let number : SiteId × State → ℕ = λ p. p.0.0 in
      different i j 0 below (omega arith)
      (sym (ap number (given_pair i d (omega arith))) ∙ same ∙ ap number (given_pair j d (omega arith)))

-- what is written of a vertex is its pair
pub written_is : (side : PatternParts) (sites : List SiteId) (k place : ℕ) (wanted : Wanted) (state : State)
    → place ≡ k → k < length sites → want_at side.wanted k ≡ wanted → state ≡ state_for side (site_numbers sites) wanted
    → ◌≡◌ {A = SiteId × State} (get_or sites place site_zero, state)
    (record { 0 = get_or (site_numbers sites) k 0 }, next_of side (site_numbers sites) k)
written_is side sites k place wanted state here low want is =
    let number : SiteId → ℕ = λ s. s.0 in
    let pair : ℕ → State → SiteId × State = λ n x. (record { 0 = n }, x) in
    ap (λ n. pair (get_or sites n site_zero).0 state) here
    ∙ ap (λ n. pair n state) (sym (get_or-map number sites k site_zero 0 low))
    ∙ ap (pair (get_or (site_numbers sites) k 0)) (is ∙ ap (state_for side (site_numbers sites)) (sym want))
