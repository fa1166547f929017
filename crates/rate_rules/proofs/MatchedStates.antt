-- Where a sound side of a step matches a well-formed configuration, each site is in the state that the side wants of it.
use Rattle.std.proofs.Common.{◌≡◌, ℕ, ◌+◌, ◌-◌, ◌<◌, Bool, true, false, eqb, List, length, get_or, refl, subst, sym, ◌∙◌, ap, arith}
use Rattle.std.specs.Bool.{beq}
use Rattle.std.specs.List.{list_all}
use Rattle.std.proofs.lemmas.Bool.{eq-eqb, eqb-true, false≢true, and_parts}
use Rattle.std.proofs.lemmas.List.{get_or_default}
use Rattle.firing.specs.Sides.{AreInStates, home_of, state_for, states_for}
use Rattle.firing.specs.Soundness.{IsSoundSide, IsWholeWant}
use Rattle.firing.proofs.EntitySites.{placed}
use Rattle.firing.proofs.GivenPairs.{given_count, given_pair}
use Rattle.firing.proofs.Wants.{want_at, whole_want}
use Rattle.kmc_base.specs.declared.ids.SiteId.{SiteId}
use Rattle.kmc_base.specs.declared.ids.SpeciesId.{SpeciesId}
use Rattle.lattice_core.specs.Config.{state_at, held, IsWellFormed}
use Rattle.lattice_core.specs.declared.state.State.{State}
use Rattle.lattice_core.specs.declared.state.State.TheVariants.{Vacant as Free, Holds as Occupied}
use Rattle.pattern_list.specs.Match.{wanted_at, is_as_wanted, homes_agree, states_agree, entities_agree, is_match}
use Rattle.pattern_list.specs.Placement.{site_at}
use Rattle.pattern_list.proofs.Vertices.{IsVertex, each_vertex}
use Rattle.pattern_types.specs.Parts.{PatternParts, vertices, vertex_count}
use Rattle.pattern_types.specs.declared.wanted.Wanted.{Wanted}
use Rattle.pattern_types.specs.declared.wanted.Wanted.TheVariants.{Any, Vacant, Holds}

as_wanted : (e d : ℕ) (p : SpeciesId) (x : State) → is_as_wanted (Holds e p d) x ≡ true → (h : ℕ) × (x ≡ held p.0 d h)
as_wanted e d p Free h = absurd (false≢true h)
as_wanted e d p (Occupied q g home) h =
    let parts = and_parts (eqb p.0 q.0) (eqb d g) h in
    let species = eqb-true p.0 q.0 parts.0 in
    let dentate = eqb-true d g parts.1 in
    (home.0, ap (λ n. held n g home.0) (sym species) ∙ ap (λ n. held p.0 n home.0) (sym dentate))

as_free : (x : State) → is_as_wanted Vacant x ≡ true → x ≡ Free
as_free Free h = refl
as_free (Occupied q g home) h = absurd (false≢true h)

same_test : (a b : Bool) → b ≡ true → beq a b ≡ true → a ≡ true
same_test true b one both = refl
same_test false true one both = absurd (false≢true both)
same_test false false one both = one

-- ---- a match

module _ (states : ℕ → State) (side : PatternParts) (sites : List ℕ) (long : length sites ≡ length side.wanted)
    (is : is_match states side sites ≡ true) where
  vertex : (i : ℕ) → i < length sites → IsVertex (vertex_count side) (i + 1)
  vertex i low = record { some = omega arith; few = omega arith }

  matched_states : states_agree states side sites ≡ true
  unfolding is_match
  matched_states = (and_parts (states_agree states side sites) (entities_agree states side sites) is).0

  matched_entities : entities_agree states side sites ≡ true
  unfolding is_match
  matched_entities = (and_parts (states_agree states side sites) (entities_agree states side sites) is).1

  agrees : (i : ℕ) → i < length sites → is_as_wanted (want_at side.wanted i) (states (get_or sites i 0)) ≡ true
  unfolding states_agree
  agrees i low =
      let here : i + 1 - 1 ≡ i = omega arith in
      let test : ℕ → Bool = λ v. is_as_wanted (wanted_at side v) (states (site_at sites v)) in
      let passed = each_vertex test (vertex_count side) matched_states (i + 1) (vertex i low) in
      subst (λ n. is_as_wanted (want_at side.wanted n) (states (get_or sites n 0)) ≡ true) here passed

  homes : (i j : ℕ) → i < length sites → j < length sites
      → homes_agree (want_at side.wanted i) (want_at side.wanted j) (states (get_or sites i 0))
      (states (get_or sites j 0)) ≡ true
  unfolding entities_agree
  homes i j low within =
      let here : i + 1 - 1 ≡ i = omega arith in
      let there : j + 1 - 1 ≡ j = omega arith in
      let test : ℕ → ℕ → Bool = λ v u. homes_agree (wanted_at side v) (wanted_at side u) (states (site_at sites v)) (states (site_at sites u)) in
      let row = each_vertex (λ v. list_all (test v) (vertices (vertex_count side))) (vertex_count side) matched_entities (i + 1) (vertex i low) in
      let passed = each_vertex (test (i + 1)) (vertex_count side) row (j + 1) (vertex j within) in
      subst (λ n. homes_agree (want_at side.wanted n) (want_at side.wanted j) (states (get_or sites n 0)) (states (get_or sites j 0)) ≡ true) here
      (subst (λ n. homes_agree (want_at side.wanted (i + 1 - 1)) (want_at side.wanted n)
      (states (get_or sites (i + 1 - 1) 0)) (states (get_or sites n 0)) ≡ true) there passed)

  -- where a vacant site is wanted, the site is vacant
  matched_free : (i : ℕ) → i < length sites → want_at side.wanted i ≡ Vacant → states (get_or sites i 0) ≡ Free
  matched_free i low want = as_free _ (ap (λ w. is_as_wanted w (states (get_or sites i 0))) (sym want) ∙ agrees i low)

  matched_held : (i e d : ℕ) (p : SpeciesId) → i < length sites → want_at side.wanted i ≡ Holds e p d
      → (h : ℕ) × (states (get_or sites i 0) ≡ held p.0 d h)
  matched_held i e d p low want = as_wanted e d p _ (ap (λ w. is_as_wanted w (states (get_or sites i 0))) (sym want) ∙ agrees i low)

  -- the dentates that are wanted of an entity are there, of one home
  matched_home : (k e d : ℕ) (p : SpeciesId) → k < length sites → want_at side.wanted k ≡ Holds e p d
      → (h : ℕ) × ((i g : ℕ) (q : SpeciesId) → i < length sites → want_at side.wanted i ≡ Holds e q g → states (get_or sites i 0) ≡ held q.0 g h)
  matched_home k e d p low want =
      let first = matched_held k e d p low want in (
        first.0,
        λ i g q within wants.
            let other = matched_held i e g q within wants in
            let test : homes_agree (Holds e q g) (Holds e p d) (held q.0 g other.0) (held p.0 d first.0) ≡ true =
            ap (λ w. homes_agree w (Holds e p d) (held q.0 g other.0) (held p.0 d first.0)) (sym wants)
            ∙ ap (λ w. homes_agree (want_at side.wanted i) w (held q.0 g other.0) (held p.0 d first.0)) (sym want)
            ∙ ap (λ x. homes_agree (want_at side.wanted i) (want_at side.wanted k) x (held p.0 d first.0)) (sym other.1)
            ∙ ap (λ x. homes_agree (want_at side.wanted i) (want_at side.wanted k) (states (get_or sites i 0)) x) (sym first.1)
            ∙ homes i k within low in
            let home = eqb-true other.0 first.0 (same_test (eqb other.0 first.0) (eqb e e) (eq-eqb e e refl) test) in
            other.1 ∙ ap (held q.0 g) home,
      )

-- ---- on a well-formed configuration

-- the home of an adsorbate is the site of its dentate 1
home-is : (dentates : ℕ → ℕ) (states : List State) → IsWellFormed dentates states → (s p h : ℕ) → state_at states s ≡ held p 1 h → h ≡ s
home-is dentates states sound s p h is =
    let adsorbate = sound s p 1 h is in
    let one = adsorbate.one_species s p 1 is in
    let once = adsorbate.each_once 1 (omega arith) (omega (arith, one.2)) in
    once.2 h adsorbate.first_on_home ∙ sym (once.2 s is)

module _ (dentates : ℕ → ℕ) (side : PatternParts) (sound : IsSoundSide side) (states : List State)
    (well_formed : IsWellFormed dentates states) (sites : List ℕ) (long : length sites ≡ length side.wanted)
    (is : is_match (state_at states) side sites ≡ true) where
  -- a dentate that is wanted is there, of the home that is wanted
  holds_home : (i e d : ℕ) (p : SpeciesId) → i < length sites → want_at side.wanted i ≡ Holds e p d
      → state_at states (get_or sites i 0) ≡ held p.0 d (home_of e side.wanted sites)
  holds_home i e d p low want =
      let whole = whole_want side sound i e d p want in
      let c = whole.2 1 (omega arith) (omega (arith, whole.0, whole.1)) in
      let first : want_at side.wanted c.0 ≡ Holds e p 1 = get_or_default side.wanted c.0 Any (Holds e p 1) c.1 ∙ c.2 in
      let home = matched_home (state_at states) side sites long is i e d p low want in
      let there = home.1 c.0 1 p (omega (arith, c.1)) first in
      let own = home-is dentates states well_formed (get_or sites c.0 0) p.0 home.0 there in
      home.1 i d p low want ∙ ap (held p.0 d) (own ∙ sym (placed side sound sites long c.0 e 1 p first))

  state-is : (i : ℕ) → i < length sites → (w : Wanted) → want_at side.wanted i ≡ w → IsWholeWant side.wanted w
      → state_at states (get_or sites i 0) ≡ state_for side sites w
  state-is i low Any want whole = absurd whole
  state-is i low Vacant want whole = matched_free (state_at states) side sites long is i low want
  state-is i low (Holds e p d) want whole = holds_home i e d p low want

  -- each site is in the state that the side wants of it
  pub in_wanted_states : AreInStates states (states_for side sites)
  in_wanted_states i d within =
      let count = given_count side sites long in
      let low : i < length sites = omega arith in
      let pair = given_pair side sites long i d low in
      ap (λ (x : SiteId × State). state_at states x.0.0) pair
      ∙ state-is i low (want_at side.wanted i) refl (sound.whole i Any (omega arith))
      ∙ sym (ap (λ (x : SiteId × State). x.1) pair)
