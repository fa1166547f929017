-- What a sound side says of its vertices.
use Rattle.std.proofs.Common.{◌≡◌, ℕ, ◌<◌, true, false, ◌&&◌, eqb, List, length, get_or, inl, inr, refl, subst, sym}
use Rattle.std.proofs.Common.{◌∙◌, ap, Some, None, slice_get}
use Rattle.std.proofs.lemmas.Bool.{cases_Bool, cases_lt, cases_order, cases_eq, eq-eqb, eqb-true, ne_eqb, both_ways, false≢true, and_parts, cond-true}
use Rattle.std.proofs.Math.Bool.{and-true, and-false}
use Rattle.std.proofs.lemmas.List.{get_or_past}
use Rattle.std.proofs.lemmas.Option.{get_or_from_slice_get, none-some, cond_some}
use Rattle.firing.specs.Entities.{first_of, is_of}
use Rattle.firing.specs.Sides.{is_dentate, is_first_dentate}
use Rattle.firing.specs.Soundness.{IsSoundSide, IsWholeWant}
use Rattle.kmc_base.specs.declared.ids.SpeciesId.{SpeciesId}
use Rattle.pattern_types.specs.Parts.{PatternParts}
use Rattle.pattern_types.specs.Soundness.{IsSound as IsPattern}
use Rattle.pattern_types.specs.Wants.{same_dentate, different_species}
use Rattle.pattern_types.specs.declared.wanted.Wanted.{Wanted}
use Rattle.pattern_types.specs.declared.wanted.Wanted.TheVariants.{Any, Vacant, Holds}

-- what the vertex at a place, from 0, wants
abbrev pub want_at : List Wanted → ℕ → Wanted
want_at wanted place = get_or wanted place Any

-- a vertex that wants a dentate is a vertex
pub want_inside : (wanted : List Wanted) (k e d : ℕ) (p : SpeciesId) → want_at wanted k ≡ Holds e p d → k < length wanted
want_inside wanted k e d p is =
    elim (cases_lt k (length wanted)) [
      | inl within ↦ within
      | inr past ↦ let none : want_at wanted k ≡ Any = get_or_past wanted k Any past in
          let clash : Any ≡ Holds e p d = sym none ∙ is in
          cc
    ]

-- the parts of what is wanted
dentate_of : Wanted → ℕ
dentate_of Any = 0
dentate_of Vacant = 0
dentate_of (Holds e p d) = d

pub dentate_is : {e f d g : ℕ} {p q : SpeciesId} → Holds e p d ≡ Holds f q g → d ≡ g
unfolding dentate_of
dentate_is is = ap dentate_of is

number_of : Wanted → ℕ
number_of Any = 0
number_of Vacant = 0
number_of (Holds e p d) = p.0

-- what was read of the vertex after a place
pub want_read : (wanted : List Wanted) (k : ℕ) (w : Wanted) → slice_get wanted k ≡ Some w → want_at wanted k ≡ w
want_read wanted k w read = get_or_from_slice_get wanted k w Any read

-- ---- tests of what a vertex wants

pub of_entity : (e : ℕ) (w : Wanted) → is_of e w ≡ true → (p : SpeciesId) × (d : ℕ) × (w ≡ Holds e p d)
of_entity e Any h = absurd (false≢true h)
of_entity e Vacant h = absurd (false≢true h)
of_entity e (Holds f p d) h = (p, d, ap (λ n. Holds n p d) (eqb-true f e h))

pub is_of-holds : (e d : ℕ) (p : SpeciesId) (w : Wanted) → w ≡ Holds e p d → is_of e w ≡ true
is_of-holds e d p w is = ap (is_of e) is ∙ eq-eqb e e refl

pub dentate_from : (e d : ℕ) (w : Wanted) → is_dentate e d w ≡ true → (p : SpeciesId) × (w ≡ Holds e p d)
dentate_from e d Any h = absurd (false≢true h)
dentate_from e d Vacant h = absurd (false≢true h)
dentate_from e d (Holds f p g) h =
    let parts = and_parts (eqb f e) (eqb g d) h in
    (p, ap (λ n. Holds n p g) (eqb-true f e parts.0) ∙ ap (Holds e p) (eqb-true g d parts.1))

pub is_dentate-holds : (e d : ℕ) (p : SpeciesId) (w : Wanted) → w ≡ Holds e p d → is_dentate e d w ≡ true
is_dentate-holds e d p w is = ap (is_dentate e d) is ∙ rw (eq-eqb e e refl, eq-eqb d d refl) refl

-- a test of two numbers, either way round
pub eqb-either : (a b : ℕ) → eqb a b ≡ eqb b a
eqb-either a b =
    elim (cases_eq a b) [
      | inl same ↦ eq-eqb a b same ∙ sym (eq-eqb b a (sym same))
      | inr other ↦ ne_eqb a b other ∙ sym (ne_eqb b a (λ same. other (sym same)))
    ]

pub is_first : (f e : ℕ) (q : SpeciesId) (w : Wanted) → w ≡ Holds f q 1 → is_first_dentate e w ≡ eqb f e
is_first f e q w is = ap (is_first_dentate e) is ∙ and-true (eqb f e)

-- the entity that a vertex begins, and its species
pub first_from : (w : Wanted) (x : ℕ × SpeciesId) → first_of w ≡ Some x → w ≡ Holds x.0 x.1 1
first_from Any x h = absurd (none-some x h)
first_from Vacant x h = absurd (none-some x h)
first_from (Holds e p d) x h =
    let parts = cond_some (eqb d 1) (e, p) x h in
    ap (Holds e p) (eqb-true d 1 parts.0) ∙ ap (λ (y : ℕ × SpeciesId). Holds y.0 y.1 1) parts.1

-- or that it begins none
pub none_first : (w : Wanted) → first_of w ≡ None → (e : ℕ) → is_first_dentate e w ≡ false
none_first Any h e = refl
none_first Vacant h e = refl
none_first (Holds f p d) h e =
    elim (cases_Bool (eqb d 1)) [
      | inl one ↦ absurd (none-some (f, p) (sym h ∙ cond-true (eqb d 1) (Some (f, p)) None one))
      | inr other ↦ ap (λ b. eqb f e && b) other ∙ and-false (eqb f e)
    ]

-- ---- two vertices

-- entities of one name are of one species
one_name : (e d g : ℕ) (p q : SpeciesId) → different_species (Holds e p d) (Holds e q g) ≡ false → p.0 ≡ q.0
one_name e d g p q alike =
    elim (cases_eq p.0 q.0) [
      | inl same ↦ same
      | inr other ↦ let differ : different_species (Holds e p d) (Holds e q g) ≡ true = rw (eq-eqb e e refl, ne_eqb p.0 q.0 other) refl in
          absurd (both_ways _ alike differ)
    ]

-- two vertices want no dentate of an entity alike
module _ (side : PatternParts) (pattern : IsPattern side) where
  apart : (i j e d : ℕ) (p q : SpeciesId) → i < j → want_at side.wanted i ≡ Holds e p d → want_at side.wanted j ≡ Holds e q d → ⊥
  apart i j e d p q below one two =
      let differ = pattern.dentates i j Any below (want_inside side.wanted j e d q two) in
      let same : same_dentate (Holds e p d) (Holds e q d) ≡ false = sym (ap (λ w. same_dentate w (Holds e q d)) one)
      ∙ sym (ap (same_dentate (want_at side.wanted i)) two) ∙ differ in
      let holds : same_dentate (Holds e p d) (Holds e q d) ≡ true = rw (eq-eqb e e refl, eq-eqb d d refl) refl in
      both_ways _ same holds

  pub once : (i j e d : ℕ) (p q : SpeciesId) → want_at side.wanted i ≡ Holds e p d → want_at side.wanted j ≡ Holds e q d → i ≡ j
  once i j e d p q one two =
      elim (cases_order i j) [
        | inl same ↦ same
        | inr other ↦ elim other [
          | inl below ↦ absurd (apart i j e d p q below one two)
          | inr above ↦ absurd (apart j i e d q p above two one)
        ]
      ]

  later_species : (i j e d g : ℕ) (p q : SpeciesId) → i < j → want_at side.wanted i ≡ Holds e p d → want_at side.wanted j ≡ Holds e q g → p.0 ≡ q.0
  later_species i j e d g p q below one two =
      one_name e d g p q
      (sym (ap (λ w. different_species w (Holds e q g)) one)
      ∙ sym (ap (different_species (want_at side.wanted i)) two)
      ∙ pattern.species i j Any below (want_inside side.wanted j e g q two))

  -- and all its vertices want one species
  pub one_species : (i j e d g : ℕ) (p q : SpeciesId) → want_at side.wanted i ≡ Holds e p d → want_at side.wanted j ≡ Holds e q g → p.0 ≡ q.0
  unfolding number_of
  one_species i j e d g p q one two =
      elim (cases_order i j) [
        | inl same ↦ ap number_of (sym one ∙ ap (want_at side.wanted) same ∙ two)
        | inr other ↦ elim other [
          | inl below ↦ later_species i j e d g p q below one two
          | inr above ↦ sym (later_species j i e g d q p above two one)
        ]
      ]

-- what a side says of a dentate that a vertex wants
pub whole_want : (side : PatternParts) → IsSoundSide side → (k e d : ℕ) (p : SpeciesId)
    → want_at side.wanted k ≡ Holds e p d → IsWholeWant side.wanted (Holds e p d)
whole_want side sound k e d p is = subst (IsWholeWant side.wanted) is (sound.whole k Any (want_inside side.wanted k e d p is))
