-- What a configuration is after an adsorbate was put on it or taken off it, site by site, and that it stays well formed.
use Rattle.std.proofs.Common.{◌≡◌, ◌≢◌, ℕ, zero, suc, ◌+◌, ◌-◌, ◌<◌, ◌≤◌, Bool, true, false, ◌||◌, cond, eqb, List, [], ◌∷◌, length}
use Rattle.std.proofs.Common.{get_or, set, drop, map, replicate, All, AllPairs, slice_index, inl, inr, refl, subst, sym, ◌∙◌, ap, arith}
use Rattle.std.specs.List.{range_with_len}
use Rattle.std.proofs.lemmas.Bool.{cond-true, cond-false, cases_eq, cases_lt, cases_Bool, or_parts, or_right, eq-eqb, ne_eqb, eqb-true}
use Rattle.std.proofs.lemmas.Bool.{false≢true, both_ways, false_from_ne_true}
use Rattle.std.proofs.lemmas.List.{get_or-set_same, get_or-set_other, get_or_past, length-drop, get_or-drop, drop_more, drop_all}
use Rattle.std.proofs.lemmas.List.Elements.{All-contains}
use Rattle.std.proofs.lemmas.List.FromFn.{get_or-map-range_with_len, length-map-range_with_len, fill_by_all}
use Rattle.lattice_core.specs.declared.state.State.{State}
use Rattle.lattice_core.specs.declared.state.State.TheVariants.{Vacant, Holds}
use Rattle.lattice_core.specs.Config.{state_at, class_of, held, has_home, state_among, put, cleared, IsWholeAdsorbate, IsAdsorbate, IsWellFormed}
use Rattle.lattice_core.specs.SiteList.{is_listed}
use Rattle.lattice_core.proofs.Members.{Contains-from_listed, listed_place, listed_at}

-- the parts of what a site holds
species_of : State → ℕ
species_of Vacant = 0
species_of (Holds species dentate home) = species.0

dentate_of : State → ℕ
dentate_of Vacant = 0
dentate_of (Holds species dentate home) = dentate

home_of : State → ℕ
home_of Vacant = 0
home_of (Holds species dentate home) = home.0

is_vacant : State → Bool
is_vacant Vacant = true
is_vacant (Holds species dentate home) = false

same_species : (p d h q e k : ℕ) → held p d h ≡ held q e k → p ≡ q
unfolding species_of
same_species p d h q e k is = ap species_of is

same_dentate : (p d h q e k : ℕ) → held p d h ≡ held q e k → d ≡ e
unfolding dentate_of
same_dentate p d h q e k is = ap dentate_of is

same_home : (p d h q e k : ℕ) → held p d h ≡ held q e k → h ≡ k
unfolding home_of
same_home p d h q e k is = ap home_of is

not_vacant : (p d h : ℕ) → Vacant ≡ held p d h → ⊥
unfolding is_vacant
not_vacant p d h is = false≢true (sym (ap is_vacant is))

-- a site that is none of those listed keeps its state
pub state_among-unlisted : (species home d : ℕ) (sites : List ℕ) (s : ℕ) (old : State) → is_listed sites s ≡ false
    → state_among species home d sites s old ≡ old
state_among-unlisted species home d [] s old h = refl
state_among-unlisted species home d (t ∷ sites) s old h =
    let parts = or_parts (eqb t s) (is_listed sites s) h in
    cond-false _ _ _ parts.0 ∙ state_among-unlisted species home (d + 1) sites s old parts.1

-- the step of the loop that puts the dentates on their sites
pub among_step : (species home d x : ℕ) (rest : List ℕ) (states : List State) (s : ℕ) → x < length states
    → is_listed rest x ≡ false
    → state_among species home (d + 1) rest s (state_at (set states x (held species d home)) s)
    ≡ state_among species home d (x ∷ rest) s (state_at states s)
among_step species home d x rest states s within later =
    elim (cases_eq x s) [
      | inl e ↦ subst (λ t. state_among species home (d + 1) rest t (state_at (set states x (held species d home)) t)
          ≡ state_among species home d (x ∷ rest) t (state_at states t)) e
          (ap (state_among species home (d + 1) rest x) (get_or-set_same states x (held species d home) Vacant within)
          ∙ state_among-unlisted species home (d + 1) rest x (held species d home) later
          ∙ sym (cond-true _ _ _ (eq-eqb x x refl)))
      | inr n ↦ let apart : s ≢ x = λ e. n (sym e) in
          ap (state_among species home (d + 1) rest s) (get_or-set_other states x s (held species d home) Vacant apart)
          ∙ sym (cond-false _ _ _ (ne_eqb x s n))
    ]

-- of different sites none is listed again later
pub unlisted_later : (sites : List ℕ) (i : ℕ) → AllPairs (λ s t. s ≢ t) sites → i < length sites
    → is_listed (drop (i + 1) sites) (get_or sites i 0) ≡ false
unlisted_later sites i different within =
    false_from_ne_true _ (λ h.
    let p = listed_place (drop (i + 1) sites) (get_or sites i 0) h in
    let at : get_or sites (i + 1 + p.0) 0 ≡ get_or sites i 0 = sym (get_or-drop (i + 1) sites p.0 0) ∙ p.2 in
    different i (i + 1 + p.0) 0 (omega arith) (omega (arith, p.1, length-drop (i + 1) sites)) (sym at))

-- the same steps along a list
pub among_more : (species home i : ℕ) (sites : List ℕ) (states : List State) (s : ℕ) → i < length sites
    → get_or sites i 0 < length states → AllPairs (λ s t. s ≢ t) sites
    → state_among species home (i + 1 + 1) (drop (i + 1) sites) s
    (state_at (set states (get_or sites i 0) (held species (i + 1) home)) s) ≡ state_among species home (i + 1)
    (drop i sites) s (state_at states s)
among_more species home i sites states s within inside different =
    among_step species home (i + 1) (get_or sites i 0) (drop (i + 1) sites) states s inside (unlisted_later sites i different within)
    ∙ ap (λ l. state_among species home (i + 1) l s (state_at states s)) (sym (drop_more sites i 0 within))

pub among_all : (species home i : ℕ) (sites : List ℕ) (s : ℕ) (old : State) → length sites ≤ i
    → state_among species home (i + 1) (drop i sites) s old ≡ old
among_all species home i sites s old past = ap (λ l. state_among species home (i + 1) l s old) (drop_all i sites past)

-- a list of states with these states is the configuration that is wanted
pub put-is : (before after : List State) (species : ℕ) (sites : List ℕ) → length after ≡ length before
    → ((s : ℕ) → state_at after s ≡ state_among species (slice_index sites 0) 1 sites s (state_at before s))
    → after ≡ put before species sites
unfolding put
put-is before after species sites lengths states =
    fill_by_all (λ s. state_among species (slice_index sites 0) 1 sites s (state_at before s)) after (length before)
    Vacant lengths (λ k low. states k)

pub cleared-is : (before after : List State) (sites : List ℕ) → length after ≡ length before
    → ((s : ℕ) → state_at after s ≡ cond (is_listed sites s) Vacant (state_at before s))
    → after ≡ cleared before sites
unfolding cleared
cleared-is before after sites lengths states =
    fill_by_all (λ s. cond (is_listed sites s) Vacant (state_at before s)) after (length before) Vacant lengths (λ k low. states k)

or_false : (a b : Bool) → b ≡ false → (a || b) ≡ a
or_false true b h = refl
or_false false b h = h

-- the step of the loop that clears the sites
pub cleared_step : (states before : List State) (x s : ℕ) (done : Bool) → x < length states
    → state_at states s ≡ cond done Vacant (state_at before s)
    → state_at (set states x Vacant) s ≡ cond (done || eqb x s) Vacant (state_at before s)
cleared_step states before x s done within known =
    elim (cases_eq x s) [
      | inl e ↦ subst (λ t. state_at (set states x Vacant) t ≡ cond (done || eqb x t) Vacant (state_at before t)) e
          (get_or-set_same states x Vacant Vacant within ∙ sym (cond-true _ _ _ (or_right done (eqb x x) (eq-eqb x x refl))))
      | inr n ↦ let apart : s ≢ x = λ e. n (sym e) in
          get_or-set_other states x s Vacant Vacant apart ∙ known
          ∙ ap (λ b. cond b Vacant (state_at before s)) (sym (or_false done (eqb x s) (ne_eqb x s n)))
    ]

either_vacant : (b : Bool) (x : State) → x ≡ Vacant → cond b Vacant x ≡ Vacant
either_vacant true x h = refl
either_vacant false x h = h

-- an adsorbate stays whole where each site holds a dentate of it exactly where it did
kept_whole : (dentates : ℕ → ℕ) (before after : List State) (species home : ℕ)
    → ((s p d : ℕ) → state_at after s ≡ held p d home → state_at before s ≡ held p d home)
    → ((s p d : ℕ) → state_at before s ≡ held p d home → state_at after s ≡ held p d home)
    → IsAdsorbate dentates before species home → IsAdsorbate dentates after species home
kept_whole dentates before after species home back there is = record {
  one_species = λ s p d h. is.one_species s p d (back s p d h);
  each_once = λ d low high.
      let one = is.each_once d low high in
      (one.0, there one.0 species d one.1, λ t h. one.2 t (back t species d h));
  first_on_home = there home species 1 is.first_on_home;
}

-- ---- an adsorbate taken off

module _ (states : List State) (sites : List ℕ) (whole : IsWholeAdsorbate states sites) where
  -- its sites are sites
  pub whole_inside : (s : ℕ) → is_listed sites s ≡ true → s < length states
  whole_inside s listed =
      elim (cases_lt s (length states)) [
        | inl within ↦ within
        | inr past ↦ let none : state_at states s ≡ Vacant = get_or_past states s Vacant past in
            absurd (both_ways (is_listed sites s) (whole.all_sites s ∙ ap (λ x. has_home x whole.home) none) listed)
      ]

  -- each site after it
  after_cleared : (s : ℕ) → state_at (cleared states sites) s ≡ cond (is_listed sites s) Vacant (state_at states s)
  unfolding cleared
  after_cleared s =
      elim (cases_lt s (length states)) [
        | inl within ↦ get_or-map-range_with_len (λ t. cond (is_listed sites t) Vacant (state_at states t)) 0
            (length states) s s Vacant within (omega arith)
        | inr past ↦ let none : state_at states s ≡ Vacant = get_or_past states s Vacant past in
            let count = length-map-range_with_len (λ t. cond (is_listed sites t) Vacant (state_at states t)) 0 (length states) in
            get_or_past _ s Vacant (omega (arith, count)) ∙ sym (either_vacant (is_listed sites s) (state_at states s) none)
      ]

  -- what still holds something held it before
  held_before : (s p d h : ℕ) → state_at (cleared states sites) s ≡ held p d h → (state_at states s ≡ held p d h) × (is_listed sites s ≡ false)
  held_before s p d h is =
      elim (cases_Bool (is_listed sites s)) [
        | inl yes_listed ↦ absurd (not_vacant p d h (sym (cond-true _ _ _ yes_listed) ∙ sym (after_cleared s) ∙ is))
        | inr unlisted ↦ (sym (cond-false _ _ _ unlisted) ∙ sym (after_cleared s) ∙ is, unlisted)
      ]

  -- a site of another home still holds it
  held_after : (s p d h : ℕ) → eqb h whole.home ≡ false → state_at states s ≡ held p d h → state_at (cleared states sites) s ≡ held p d h
  held_after s p d h other is =
      let unlisted : is_listed sites s ≡ false = whole.all_sites s ∙ ap (λ x. has_home x whole.home) is ∙ other in
      after_cleared s ∙ cond-false _ _ _ unlisted ∙ is

  pub cleared-well_formed : (dentates : ℕ → ℕ) → IsWellFormed dentates states → IsWellFormed dentates (cleared states sites)
  cleared-well_formed dentates sound s p d h is =
      let was = held_before s p d h is in
      let other : eqb h whole.home ≡ false = sym (ap (λ x. has_home x whole.home) was.0) ∙ sym (whole.all_sites s) ∙ was.1 in
      kept_whole dentates states (cleared states sites) p h (λ t q e k. (held_before t q e h k).0)
      (λ t q e k. held_after t q e h other k) (sound s p d h was.0)

-- ---- an adsorbate put on

-- what has a home holds a dentate
pub held_from_home : (x : State) (h : ℕ) → has_home x h ≡ true → (p d : ℕ) × (x ≡ held p d h)
held_from_home Vacant h is = absurd (false≢true is)
held_from_home (Holds species dentate home) h is = (species.0, dentate, ap (held species.0 dentate) (eqb-true home.0 h is))

-- of different sites those after the first are different
pub later_different : (t : ℕ) (sites : List ℕ) → AllPairs (λ s u. s ≢ u) (t ∷ sites) → AllPairs (λ s u. s ≢ u) sites
later_different t sites different i j d low within = different (suc i) (suc j) d (omega arith) (omega arith)

-- the dentate of each of the sites is its place
pub among_at : (species home d : ℕ) (sites : List ℕ) (i : ℕ) (old : State) → AllPairs (λ s t. s ≢ t) sites
    → i < length sites → state_among species home d sites (get_or sites i 0) old ≡ held species (d + i) home
among_at species home d [] i old different within = absurd (omega arith)
among_at species home d (t ∷ sites) zero old different within =
    cond-true _ _ _ (eq-eqb t t refl) ∙ ap (λ n. held species n home) (omega arith)
among_at species home d (t ∷ sites) (suc i) old different within =
    let apart : t ≢ get_or sites i 0 = different 0 (suc i) 0 (omega arith) within in
    cond-false _ _ _ (ne_eqb t (get_or sites i 0) apart)
    ∙ among_at species home (d + 1) sites i old (later_different t sites different) (omega arith)
    ∙ ap (λ n. held species n home) (omega arith)

module _ (states : List State) (species : ℕ) (sites : List ℕ) (different : AllPairs (λ s t. s ≢ t) sites)
    (inside : All (λ s. s < length states) sites) (vacant : All (λ s. state_at states s ≡ Vacant) sites)
    (some : 1 ≤ length sites) where
  -- each site after it
  after_put : (s : ℕ) → state_at (put states species sites) s ≡ state_among species (slice_index sites 0) 1 sites s (state_at states s)
  unfolding put
  after_put s =
      let f : ℕ → State = λ t. state_among species (slice_index sites 0) 1 sites t (state_at states t) in
      elim (cases_lt s (length states)) [
        | inl within ↦ get_or-map-range_with_len f 0 (length states) s s Vacant within (omega arith)
        | inr past ↦ let none : state_at states s ≡ Vacant = get_or_past states s Vacant past in
            let unlisted = false_from_ne_true (is_listed sites s)
            (λ h. let low : s < length states = All-contains (λ t. t < length states) sites s inside
            (Contains-from_listed sites s h) in absurd (omega arith)) in
            get_or_past (map f (range_with_len 0 (length states))) s Vacant (omega (arith, length-map-range_with_len f 0 (length states)))
            ∙ sym (state_among-unlisted species (slice_index sites 0) 1 sites s (state_at states s) unlisted ∙ none)
      ]

  was_vacant : (s : ℕ) → is_listed sites s ≡ true → state_at states s ≡ Vacant
  was_vacant s h = All-contains (λ t. state_at states t ≡ Vacant) sites s vacant (Contains-from_listed sites s h)

  at_place : (i : ℕ) → i < length sites → state_at (put states species sites) (get_or sites i 0) ≡ held species (1 + i) (slice_index sites 0)
  at_place i within = after_put (get_or sites i 0)
      ∙ among_at species (slice_index sites 0) 1 sites i (state_at states (get_or sites i 0)) different within

  off_site : (s : ℕ) → is_listed sites s ≡ false → state_at (put states species sites) s ≡ state_at states s
  off_site s unlisted = after_put s ∙ state_among-unlisted species (slice_index sites 0) 1 sites s (state_at states s) unlisted

  -- nothing had the new home before
  no_home_before : (dentates : ℕ → ℕ) → IsWellFormed dentates states → (s p d : ℕ) → state_at states s ≡ held p d (slice_index sites 0) → ⊥
  no_home_before dentates sound s p d is =
      not_vacant p 1 (slice_index sites 0)
      (sym (was_vacant (slice_index sites 0) (listed_at sites 0 some))
      ∙ (sound s p d (slice_index sites 0) is).first_on_home)

  -- what has the new home is one of the sites
  has_place : (dentates : ℕ → ℕ) → IsWellFormed dentates states → (s p d : ℕ)
      → state_at (put states species sites) s ≡ held p d (slice_index sites 0) → (i : ℕ) × (i < length sites)
      × (get_or sites i 0 ≡ s) × (held species (1 + i) (slice_index sites 0) ≡ held p d (slice_index sites 0))
  has_place dentates sound s p d is =
      elim (cases_Bool (is_listed sites s)) [
        | inl on ↦ let q = listed_place sites s on in
            (q.0, q.1, q.2, sym (at_place q.0 q.1) ∙ ap (state_at (put states species sites)) q.2 ∙ is)
        | inr off ↦ absurd (no_home_before dentates sound s p d (sym (off_site s off) ∙ is))
      ]

  new_whole : (dentates : ℕ → ℕ) → dentates species ≡ length sites → IsWellFormed dentates states
      → IsAdsorbate dentates (put states species sites) species (slice_index sites 0)
  new_whole dentates count sound = record {
    one_species = λ s p d is.
        let q = has_place dentates sound s p d is in
        let e = same_dentate _ _ _ _ _ _ q.3 in
        (sym (same_species _ _ _ _ _ _ q.3), omega arith, omega (arith, q.1));
    each_once = λ d low high.
        let e : 1 + (d - 1) ≡ d = omega arith in
        let within : d - 1 < length sites = omega arith in (
          get_or sites (d - 1) 0,
          at_place (d - 1) within ∙ ap (λ n. held species n (slice_index sites 0)) e,
          λ t is.
              let q = has_place dentates sound t species d is in
              let place : q.0 ≡ d - 1 = omega (arith, same_dentate _ _ _ _ _ _ q.3) in
              sym q.2 ∙ ap (λ n. get_or sites n 0) place,
        );
    first_on_home = at_place 0 some;
  }

  -- the other homes keep what they had
  other_before : (s p d h : ℕ) → (h ≡ slice_index sites 0 → ⊥) → state_at (put states species sites) s ≡ held p d h → state_at states s ≡ held p d h
  other_before s p d h other is =
      elim (cases_Bool (is_listed sites s)) [
        | inl on ↦ let q = listed_place sites s on in
            absurd (other (sym (same_home _ _ _ _ _ _ (sym (at_place q.0 q.1) ∙ ap (state_at (put states species sites)) q.2 ∙ is))))
        | inr off ↦ sym (off_site s off) ∙ is
      ]

  other_after : (s p d h : ℕ) → state_at states s ≡ held p d h → state_at (put states species sites) s ≡ held p d h
  other_after s p d h is =
      elim (cases_Bool (is_listed sites s))
      [ inl on ↦ absurd (not_vacant p d h (sym (was_vacant s on) ∙ is)) | inr off ↦ off_site s off ∙ is ]

  other_whole : (dentates : ℕ → ℕ) → IsWellFormed dentates states → (s p d h : ℕ) → state_at states s ≡ held p d h
      → IsAdsorbate dentates (put states species sites) p h
  other_whole dentates sound s p d h is =
      let other : h ≡ slice_index sites 0 → ⊥ = λ e. no_home_before dentates sound s p d (is ∙ ap (held p d) e) in
      kept_whole dentates states (put states species sites) p h (λ t q e k. other_before t q e h other k)
      (λ t q e k. other_after t q e h k) (sound s p d h is)

  pub put-well_formed : (dentates : ℕ → ℕ) → dentates species ≡ length sites → IsWellFormed dentates states
      → IsWellFormed dentates (put states species sites)
  put-well_formed dentates count sound s p d h is =
      elim (cases_Bool (is_listed sites s)) [
        | inl on ↦ let q = listed_place sites s on in
            let eq : held species (1 + q.0) (slice_index sites 0) ≡ held p d h =
            sym (at_place q.0 q.1) ∙ ap (state_at (put states species sites)) q.2 ∙ is in
            subst (λ k. IsAdsorbate dentates (put states species sites) p k) (same_home _ _ _ _ _ _ eq)
            (subst (λ k. IsAdsorbate dentates (put states species sites) k (slice_index sites 0))
            (same_species _ _ _ _ _ _ eq) (new_whole dentates count sound))
        | inr off ↦ other_whole dentates sound s p d h (sym (off_site s off) ∙ is)
      ]

  -- the sites are all those of the new adsorbate
  whole_at : (dentates : ℕ → ℕ) → IsWellFormed dentates states → (s : ℕ)
      → is_listed sites s ≡ has_home (state_at (put states species sites) s) (slice_index sites 0)
  whole_at dentates sound s =
      let home = slice_index sites 0 in
      elim (cases_Bool (is_listed sites s)) [
        | inl on ↦ let q = listed_place sites s on in
            let is = sym (ap (state_at (put states species sites)) q.2) ∙ at_place q.0 q.1 in
            on ∙ sym (ap (λ x. has_home x home) is ∙ eq-eqb home home refl)
        | inr off ↦ off ∙ sym (ap (λ x. has_home x home) (off_site s off)
            ∙ false_from_ne_true _ (λ h. let x = held_from_home (state_at states s) home h in no_home_before dentates sound s x.0 x.1 x.2))
      ]

  pub put-whole : (dentates : ℕ → ℕ) → IsWellFormed dentates states → IsWholeAdsorbate (put states species sites) sites
  put-whole dentates sound = record { home = slice_index sites 0; has_a_site = some; all_sites = whole_at dentates sound }

-- ---- no adsorbate

-- the classes of vacant sites are 0
pub classes-vacant : (n : ℕ) → replicate n 0 ≡ map class_of (replicate n Vacant)
classes-vacant zero = refl
classes-vacant (suc n) = ap (λ l. 0 ∷ l) (classes-vacant n)

state_at-vacant : (n s : ℕ) → state_at (replicate n Vacant) s ≡ Vacant
state_at-vacant zero s = refl
state_at-vacant (suc n) zero = refl
state_at-vacant (suc n) (suc s) = state_at-vacant n s

pub vacant-well_formed : (dentates : ℕ → ℕ) (n : ℕ) → IsWellFormed dentates (replicate n Vacant)
vacant-well_formed dentates n s p d h is = absurd (not_vacant p d h (sym (state_at-vacant n s) ∙ is))
