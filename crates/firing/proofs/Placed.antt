-- What clearing and setting an adsorbate makes of the states of its sites, and sites with given states.
use Rattle.std.proofs.Common.{◌≡◌, ◌≢◌, ℕ, zero, suc, ◌+◌, ◌-◌, ◌<◌, ◌≤◌, Bool, true, false, cond, eqb, List, [], ◌∷◌, length, get_or}
use Rattle.std.proofs.Common.{set, map, zip, All, AllPairs, slice_index, inl, inr, refl, subst, sym, ◌∙◌, ap, arith}
use Rattle.std.specs.List.{range_with_len}
use Rattle.std.proofs.lemmas.Bool.{cases_Bool, cases_lt, or_parts, eq-eqb, both_ways, false_from_ne_true}
use Rattle.std.proofs.lemmas.List.{ext_get_or, get_or-map, get_or_past, get_or-set_same, get_or-set_other, length-map, length-set}
use Rattle.std.proofs.lemmas.List.FromFn.{get_or-map-range_with_len, length-map-range_with_len}
use Rattle.std.proofs.lemmas.Slice.Zip.{get_or-zip}
use Rattle.firing.specs.Sides.{AreInStates, sites_from, state_for, states_for, with_states}
use Rattle.firing.proofs.Wants.{want_at}
use Rattle.kmc_base.specs.declared.ids.SiteId.{SiteId}
use Rattle.lattice_core.specs.Config.{state_at, held, has_home, state_among, put, cleared, IsWholeAdsorbate, IsWellFormed}
use Rattle.lattice_core.specs.SiteList.{is_listed}
use Rattle.lattice_core.specs.declared.state.State.{State}
use Rattle.lattice_core.specs.declared.state.State.TheVariants.{Vacant as Free}
use Rattle.lattice_core.proofs.Adsorbates.{among_at, held_from_home, later_different, state_among-unlisted}
use Rattle.lattice_core.proofs.Members.{listed_place, listed_at, same_answers}
use Rattle.pattern_types.specs.Parts.{PatternParts}
use Rattle.pattern_types.specs.declared.wanted.Wanted.TheVariants.{Any}

-- ---- an adsorbate taken off, or put on

either_free : (b : Bool) (x : State) → x ≡ Free → cond b Free x ≡ Free
either_free true x h = refl
either_free false x h = h

-- each site once some are vacant
pub after_cleared : (states : List State) (own : List ℕ) (s : ℕ) → state_at (cleared states own) s ≡ cond (is_listed own s) Free (state_at states s)
unfolding cleared
after_cleared states own s =
    let f : ℕ → State = λ t. cond (is_listed own t) Free (state_at states t) in
    elim (cases_lt s (length states)) [
      | inl within ↦ get_or-map-range_with_len f 0 (length states) s s Free within (omega arith)
      | inr past ↦
          get_or_past (map f (range_with_len 0 (length states))) s Free (omega (arith, length-map-range_with_len f 0 (length states)))
          ∙ sym (either_free (is_listed own s) (state_at states s) (get_or_past states s Free past))
    ]

pub cleared-length : (states : List State) (own : List ℕ) → length (cleared states own) ≡ length states
unfolding cleared
cleared-length states own = length-map-range_with_len (λ t. cond (is_listed own t) Free (state_at states t)) 0 (length states)

module _ (states : List State) (species : ℕ) (own : List ℕ) where
  among : ℕ → State
  among s = state_among species (slice_index own 0) 1 own s (state_at states s)

  pub put-length : length (put states species own) ≡ length states
  unfolding put among
  put-length = length-map-range_with_len among 0 (length states)

  put_within : (s : ℕ) → s < length states → state_at (put states species own) s ≡ among s
  unfolding put among
  put_within s within = get_or-map-range_with_len among 0 (length states) s s Free within (omega arith)

  put_past : (s : ℕ) → length states ≤ s → state_at (put states species own) s ≡ Free
  unfolding put among
  put_past s past =
      get_or_past (map among (range_with_len 0 (length states))) s Free (omega (arith, length-map-range_with_len among 0 (length states)))

  -- the sites of an adsorbate that was put on
  pub put_on : AllPairs (λ s t. s ≢ t) own → All (λ s. s < length states) own → (m : ℕ) → m < length own
      → state_at (put states species own) (get_or own m 0) ≡ held species (1 + m) (slice_index own 0)
  unfolding among
  put_on different inside m within =
      put_within (get_or own m 0) (inside m 0 within)
      ∙ among_at species (slice_index own 0) 1 own m (state_at states (get_or own m 0)) different within

  -- and the other sites
  pub put_off : (s : ℕ) → is_listed own s ≡ false → state_at (put states species own) s ≡ state_at states s
  unfolding among
  put_off s none =
      elim (cases_lt s (length states)) [
        | inl within ↦ put_within s within ∙ state_among-unlisted species (slice_index own 0) 1 own s (state_at states s) none
        | inr past ↦ put_past s past ∙ sym (get_or_past states s Free past)
      ]

-- Sites that hold the dentates of a species in their order, of one home and as many as the species has, are all those of
-- an adsorbate.
pub whole_from : (dentates : ℕ → ℕ) (states : List State) (species home : ℕ) (own : List ℕ)
    → IsWellFormed dentates states → 1 ≤ length own → length own ≡ dentates species
    → ((m : ℕ) → m < length own → state_at states (get_or own m 0) ≡ held species (1 + m) home)
    → IsWholeAdsorbate states own
whole_from dentates states species home own sound some count holds =
    let adsorbate = sound (get_or own 0 0) species 1 home (holds 0 some) in
    record {
      home = home;
      has_a_site = some;
      all_sites = λ s.
          same_answers (is_listed own s) (has_home (state_at states s) home)
          (λ h.
          let m = listed_place own s h in
          ap (λ t. has_home (state_at states t) home) (sym m.2) ∙ ap (λ x. has_home x home) (holds m.0 m.1) ∙ eq-eqb home home refl)
          (λ h.
          let x = held_from_home (state_at states s) home h in
          let one = adsorbate.one_species s x.0 x.1 x.2 in
          let here : state_at states s ≡ held species x.1 home = x.2 ∙ ap (λ n. held n x.1 home) one.0 in
          let once = adsorbate.each_once x.1 one.1 one.2 in
          let within : x.1 - 1 < length own = omega (arith, one.1, one.2) in
          let next : 1 + (x.1 - 1) ≡ x.1 = omega (arith, one.1) in
          let there : state_at states (get_or own (x.1 - 1) 0) ≡ held species x.1 home =
          holds (x.1 - 1) within ∙ ap (λ n. held species n home) next in
          subst (λ t. is_listed own t ≡ true) (once.2 _ there ∙ sym (once.2 s here)) (listed_at own (x.1 - 1) within));
    }

-- ---- some sites with given states

pub with-length : (given : List (SiteId × State)) (states : List State) → length (with_states given states) ≡ length states
unfolding with_states
with-length [] states = refl
with-length (pair ∷ given) states = with-length given (set states pair.0.0 pair.1) ∙ length-set states pair.0.0 pair.1

with-off : (sites : List ℕ) (given states : List State) (s : ℕ) → is_listed sites s ≡ false
    → state_at (with_states (zip (sites_from sites) given) states) s ≡ state_at states s
unfolding with_states
with-off [] given states s none = refl
with-off (t ∷ sites) [] states s none = refl
with-off (t ∷ sites) (x ∷ given) states s none =
    let parts = or_parts (eqb t s) (is_listed sites s) none in
    let apart : s ≢ t = λ e. both_ways _ parts.0 (eq-eqb t s (sym e)) in
    with-off sites given (set states t x) s parts.1 ∙ get_or-set_other states t s x Free apart

first_once : (t : ℕ) (sites : List ℕ) → AllPairs (λ s u. s ≢ u) (t ∷ sites) → is_listed sites t ≡ false
first_once t sites different =
    false_from_ne_true _ (λ h. let m = listed_place sites t h in different 0 (suc m.0) 0 (omega arith) (let low = m.1 in omega arith) (sym m.2))

with-on : (sites : List ℕ) (given states : List State) (i : ℕ) → i < length sites → length given ≡ length sites
    → AllPairs (λ s t. s ≢ t) sites → All (λ s. s < length states) sites
    → state_at (with_states (zip (sites_from sites) given) states) (get_or sites i 0) ≡ get_or given i Free
unfolding with_states
with-on [] given states i low long different inside = absurd (omega arith)
with-on (t ∷ sites) [] states i low long different inside = absurd (omega arith)
with-on (t ∷ sites) (x ∷ given) states zero low long different inside =
    with-off sites given (set states t x) t (first_once t sites different) ∙ get_or-set_same states t x Free (inside 0 0 (omega arith))
with-on (t ∷ sites) (x ∷ given) states (suc i) low long different inside =
    with-on sites given (set states t x) i (omega arith) (omega arith) (later_different t sites different)
    (λ j d within. let there = inside (suc j) d (omega arith) in let count = length-set states t x in omega arith)

-- as many pairs as members
pub zip-length : {A B : Type 0} (xs : List A) (ys : List B) → length ys ≡ length xs → length (zip xs ys) ≡ length xs
zip-length [] ys long = refl
zip-length (x ∷ xs) [] long = absurd (omega (arith, long))
zip-length (x ∷ xs) (y ∷ ys) long = ap suc (zip-length xs ys (omega (arith, long)))

-- the state that is wanted of the site of a vertex
abbrev pub next_of : PatternParts → List ℕ → ℕ → State
next_of side sites i = state_for side sites (want_at side.wanted i)

module _ (side : PatternParts) (sites : List ℕ) (long : length sites ≡ length side.wanted) where
  wanted_of : (i : ℕ) → i < length sites → get_or (map (state_for side sites) side.wanted) i Free ≡ next_of side sites i
  wanted_of i low = get_or-map (state_for side sites) side.wanted i Any Free (omega arith)

  given_many : length (map (state_for side sites) side.wanted) ≡ length sites
  given_many = length-map side.wanted (state_for side sites) ∙ sym long

  -- the states of a side on its sites, and on the others
  side-on : (states : List State) (i : ℕ) → i < length sites → AllPairs (λ s t. s ≢ t) sites
      → All (λ s. s < length states) sites
      → state_at (with_states (states_for side sites) states) (get_or sites i 0) ≡ next_of side sites i
  side-on states i low different inside =
      with-on sites (map (state_for side sites) side.wanted) states i low given_many different inside ∙ wanted_of i low

  side-off : (states : List State) (s : ℕ) → is_listed sites s ≡ false
      → state_at (with_states (states_for side sites) states) s ≡ state_at states s
  side-off states s none = with-off sites (map (state_for side sites) side.wanted) states s none

  -- a configuration that has the states of a side on its sites, and elsewhere the old ones
  pub side-is : (states now : List State) → AllPairs (λ s t. s ≢ t) sites → All (λ s. s < length states) sites
      → length now ≡ length states
      → ((i : ℕ) → i < length sites → state_at now (get_or sites i 0) ≡ next_of side sites i)
      → ((s : ℕ) → is_listed sites s ≡ false → state_at now s ≡ state_at states s)
      → now ≡ with_states (states_for side sites) states
  side-is states now different inside count on off =
      ext_get_or Free now (with_states (states_for side sites) states)
      (count ∙ sym (with-length (states_for side sites) states)) (λ s within.
      elim (cases_Bool (is_listed sites s)) [
        | inl listed ↦ let i = listed_place sites s listed in
            ap (state_at now) (sym i.2)
            ∙ on i.0 i.1
            ∙ sym (side-on states i.0 i.1 different inside)
            ∙ ap (state_at (with_states (states_for side sites) states)) i.2
        | inr none ↦ off s none ∙ sym (side-off states s none)
      ])

  -- they are the same on a configuration that differs on these sites alone
  pub same_elsewhere : (old now : List State) → AllPairs (λ s t. s ≢ t) sites → All (λ s. s < length old) sites
      → length now ≡ length old → ((s : ℕ) → is_listed sites s ≡ false → state_at now s ≡ state_at old s)
      → with_states (states_for side sites) now ≡ with_states (states_for side sites) old
  same_elsewhere old now different inside count off =
      side-is old (with_states (states_for side sites) now) different inside (with-length (states_for side sites) now ∙ count)
      (λ i low. side-on now i low different (λ j d within. let there = inside j d within in omega arith))
      (λ s none. side-off now s none ∙ off s none)

  -- the state of the site of a vertex, where each site is in the state that is wanted of it
  pub in_state : (states : List State) → AreInStates states (states_for side sites) → (i : ℕ) → i < length sites
      → state_at states (get_or sites i 0) ≡ next_of side sites i
  in_state states are i low =
      let xs = sites_from sites in
      let ys = map (state_for side sites) side.wanted in
      let d : SiteId × State = (record { 0 = 0 }, Free) in
      let from : ℕ → SiteId = λ s. record { 0 = s } in
      let count = length-map sites from in
      let pair = get_or-zip xs ys i d (omega (arith, count)) (omega (arith, given_many)) in
      let site = get_or-map from sites i 0 (record { 0 = 0 }) low in
      ap (λ (s : SiteId). state_at states s.0) (sym site)
      ∙ ap (λ (x : SiteId × State). state_at states x.0.0) (sym pair)
      ∙ are i d (omega (arith, count, zip-length xs ys (given_many ∙ sym count)))
      ∙ ap (λ (x : SiteId × State). x.1) pair
      ∙ wanted_of i low
