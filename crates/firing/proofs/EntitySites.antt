-- The sites of an entity among those of a placement.
use Rattle.std.proofs.Common.{◌≡◌, ◌≢◌, ℕ, zero, suc, ◌+◌, ◌-◌, ◌<◌, ◌≤◌, true, false, List, [], ◌∷◌, length, get_or, All, AllPairs, inl}
use Rattle.std.proofs.Common.{inr, refl, subst, sym, ◌∙◌, ap, arith}
use Rattle.std.proofs.lemmas.Bool.{cases_order, both_ways, false_from_ne_true, cond-true, cond-false}
use Rattle.std.proofs.lemmas.List.{get_or_default}
use Rattle.std.proofs.lemmas.List.FromFn.{get_or-map-range_with_len, length-map-range_with_len}
use Rattle.firing.specs.Entities.{entity_sites, is_of, size_of}
use Rattle.firing.specs.Sides.{home_of, is_dentate, site_of}
use Rattle.firing.specs.Soundness.{IsSoundSide}
use Rattle.firing.proofs.Wants.{want_at, want_inside, dentate_is, of_entity, is_of-holds}
use Rattle.firing.proofs.Wants.{dentate_from, is_dentate-holds, once, whole_want}
use Rattle.kmc_base.specs.declared.ids.SpeciesId.{SpeciesId}
use Rattle.lattice_core.specs.SiteList.{is_listed}
use Rattle.lattice_core.proofs.Members.{listed_place, listed_at, same_answers}
use Rattle.pattern_types.specs.Parts.{PatternParts}
use Rattle.pattern_types.specs.declared.wanted.Wanted.{Wanted}
use Rattle.pattern_types.specs.declared.wanted.Wanted.TheVariants.{Any, Holds}

-- the site of a dentate is that of the first vertex that wants it
pub site_first : (e d k : ℕ) (wanted : List Wanted) (sites : List ℕ) → k < length sites → k < length wanted
    → is_dentate e d (want_at wanted k) ≡ true → ((m : ℕ) → m < k → is_dentate e d (want_at wanted m) ≡ false)
    → site_of e d wanted sites ≡ get_or sites k 0
site_first e d k [] sites low within is before = absurd (omega arith)
site_first e d k (w ∷ wanted) [] low within is before = absurd (omega arith)
site_first e d zero (w ∷ wanted) (s ∷ sites) low within is before = cond-true (is_dentate e d w) s (site_of e d wanted sites) is
site_first e d (suc k) (w ∷ wanted) (s ∷ sites) low within is before =
    cond-false (is_dentate e d w) s (site_of e d wanted sites) (before 0 (omega arith))
    ∙ site_first e d k wanted sites (omega arith) (omega arith) is (λ m below. before (suc m) (omega arith))

-- and site 0 where none does
pub site_none : (e d : ℕ) (wanted : List Wanted) (sites : List ℕ)
    → ((m : ℕ) → m < length wanted → is_dentate e d (want_at wanted m) ≡ false) → site_of e d wanted sites ≡ 0
site_none e d [] sites none = refl
site_none e d (w ∷ wanted) [] none = refl
site_none e d (w ∷ wanted) (s ∷ sites) none =
    cond-false (is_dentate e d w) s (site_of e d wanted sites) (none 0 (omega arith))
    ∙ site_none e d wanted sites (λ m within. none (suc m) (omega arith))

-- no site is there at two places
pub same_place : (sites : List ℕ) → AllPairs (λ s t. s ≢ t) sites → (i j : ℕ) → i < length sites → j < length sites
    → get_or sites i 0 ≡ get_or sites j 0 → i ≡ j
same_place sites different i j low within is =
    elim (cases_order i j) [
      | inl same ↦ same
      | inr other ↦ elim other [
        | inl below ↦ absurd (different i j 0 below within is)
        | inr above ↦ absurd (different j i 0 above low (sym is))
      ]
    ]

module _ (side : PatternParts) (sound : IsSoundSide side) (sites : List ℕ) (long : length sites ≡ length side.wanted) where
  -- a dentate has the site of the vertex that wants it
  pub placed : (i e d : ℕ) (p : SpeciesId) → want_at side.wanted i ≡ Holds e p d → site_of e d side.wanted sites ≡ get_or sites i 0
  placed i e d p want =
      let within = want_inside side.wanted i e d p want in
      site_first e d i side.wanted sites (omega arith) within (is_dentate-holds e d p _ want) (λ m below.
      false_from_ne_true _ (λ h.
      let other = dentate_from e d (want_at side.wanted m) h in
      let same = once side sound.pattern m i e d other.0 p other.1 want in
      omega arith))

-- ---- the sites of the entity that a vertex begins

module _ (side : PatternParts) (sound : IsSoundSide side) (sites : List ℕ) (long : length sites ≡ length side.wanted)
    (different : AllPairs (λ s t. s ≢ t) sites) (k e : ℕ) (p : SpeciesId) (first : want_at side.wanted k ≡ Holds e p 1) where
  abbrev pub own : List ℕ
  own = entity_sites e side.wanted sites

  pub own_count : length own ≡ size_of e side.wanted
  own_count = length-map-range_with_len (λ d. site_of e d side.wanted sites) 1 (size_of e side.wanted)

  own_from : (m : ℕ) → m < length own → get_or own m 0 ≡ site_of e (m + 1) side.wanted sites
  own_from m low =
      let count = own_count in
      get_or-map-range_with_len (λ d. site_of e d side.wanted sites) 1 (size_of e side.wanted) m (m + 1) 0 (omega arith) (omega arith)

  -- each dentate has its site
  pub own_at : (i d : ℕ) (q : SpeciesId) → want_at side.wanted i ≡ Holds e q d → (d - 1 < length own)
      × (get_or own (d - 1) 0 ≡ get_or sites i 0)
  own_at i d q want =
      let whole = whole_want side sound i e d q want in
      let count = own_count in
      let low : d - 1 < length own = omega (arith, whole.0, whole.1) in
      let dentate : d - 1 + 1 ≡ d = omega (arith, whole.0) in (
        low,
        own_from (d - 1) low ∙ ap (λ n. site_of e n side.wanted sites) dentate ∙ placed side sound sites long i e d q want,
      )

  -- and each site is that of a vertex
  pub vertex_of : (m : ℕ) → m < length own → (i : ℕ) × (i < length sites)
      × (want_at side.wanted i ≡ Holds e p (m + 1)) × (get_or own m 0 ≡ get_or sites i 0)
  vertex_of m low =
      let whole = whole_want side sound k e 1 p first in
      let count = own_count in
      let c = whole.2 (m + 1) (omega arith) (omega arith) in
      let want : want_at side.wanted c.0 ≡ Holds e p (m + 1) = get_or_default side.wanted c.0 Any (Holds e p (m + 1)) c.1 ∙ c.2 in
      (c.0, omega (arith, c.1), want, own_from m low ∙ placed side sound sites long c.0 e (m + 1) p want)

  pub own_some : 1 ≤ length own
  own_some = let whole = whole_want side sound k e 1 p first in let count = own_count in omega (arith, whole.1)

  pub own_different : AllPairs (λ s t. s ≢ t) own
  own_different a b d below within same =
      let one = vertex_of a (omega arith) in
      let two = vertex_of b within in
      let equal : get_or own a 0 ≡ get_or own b 0 = get_or_default own a 0 d (omega arith) ∙ same ∙ get_or_default own b d 0 within in
      let place = same_place sites different one.0 two.0 one.1 two.1 (sym one.3 ∙ equal ∙ two.3) in
      let dentate = dentate_is (sym one.2 ∙ ap (want_at side.wanted) place ∙ two.2) in
      omega arith

  pub own_all : (P : ℕ → Type 0) → All P sites → All P own
  own_all P all a d within =
      let one = vertex_of a within in
      subst P (sym (get_or_default own a d 0 within ∙ one.3)) (all one.0 0 one.1)

  -- they are those of the vertices of the entity, and no others
  pub listed_of : (i : ℕ) → i < length sites → is_listed own (get_or sites i 0) ≡ is_of e (want_at side.wanted i)
  listed_of i low =
      same_answers (is_listed own (get_or sites i 0)) (is_of e (want_at side.wanted i))
      (λ h.
      let m = listed_place own (get_or sites i 0) h in
      let one = vertex_of m.0 m.1 in
      let place = same_place sites different i one.0 low one.1 (sym m.2 ∙ one.3) in
      is_of-holds e (m.0 + 1) p _ (ap (want_at side.wanted) place ∙ one.2))
      (λ h.
      let want = of_entity e (want_at side.wanted i) h in
      let at = own_at i want.1 want.0 want.2 in
      subst (λ s. is_listed own s ≡ true) at.1 (listed_at own (want.1 - 1) at.0))

  pub unlisted : (s : ℕ) → is_listed sites s ≡ false → is_listed own s ≡ false
  unlisted s none =
      false_from_ne_true _ (λ h.
      let m = listed_place own s h in
      let one = vertex_of m.0 m.1 in
      both_ways _ none (subst (λ t. is_listed sites t ≡ true) (sym one.3 ∙ m.2) (listed_at sites one.0 one.1)))

  pub own_home : get_or own 0 0 ≡ home_of e side.wanted sites
  own_home = (own_at k 1 p first).1 ∙ sym (placed side sound sites long k e 1 p first)
