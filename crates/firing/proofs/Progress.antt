-- Which entities of a side are done after some of its vertices.
use Rattle.std.proofs.Common.{◌≡◌, ◌≢◌, ℕ, ◌+◌, ◌<◌, ◌≤◌, Bool, true, false, ◌||◌, cond, List, [], length, get_or, take, AllPairs}
use Rattle.std.proofs.Common.{inl, inr, refl, sym, ◌∙◌, ap, arith}
use Rattle.std.specs.List.{list_any}
use Rattle.std.proofs.Math.Bool.{or-false}
use Rattle.std.proofs.lemmas.Bool.{cases_Bool, eq-eqb, or_right, cond-true, cond-false, false_from_ne_true}
use Rattle.std.proofs.lemmas.List.{get_or_default, get_or-take, length-take-le, take_all}
use Rattle.std.proofs.lemmas.List.Folds.{list_any_more, list_any_none, list_any_at}
use Rattle.firing.specs.Entities.{entity_sites, is_of}
use Rattle.firing.specs.Sides.{is_first_dentate}
use Rattle.firing.specs.Soundness.{IsSoundSide, IsWholeWant}
use Rattle.firing.proofs.EntitySites.{listed_of, unlisted}
use Rattle.firing.proofs.Wants.{want_at, want_inside, of_entity, dentate_from, eqb-either, is_first, once}
use Rattle.kmc_base.specs.declared.ids.SpeciesId.{SpeciesId}
use Rattle.lattice_core.specs.Config.{state_at}
use Rattle.lattice_core.specs.SiteList.{is_listed}
use Rattle.lattice_core.specs.declared.state.State.{State}
use Rattle.pattern_types.specs.Parts.{PatternParts}
use Rattle.pattern_types.specs.declared.wanted.Wanted.{Wanted}
use Rattle.pattern_types.specs.declared.wanted.Wanted.TheVariants.{Any, Vacant, Holds}

-- one of some vertices wants dentate 1 of the entity of which a vertex wants a dentate
abbrev pub is_begun : List Wanted → Wanted → Bool
is_begun done Any = false
is_begun done Vacant = false
is_begun done (Holds e p d) = list_any (is_first_dentate e) done

-- after one more vertex, which wants dentate 1 of an entity
begun_more : (wanted : List Wanted) (k f : ℕ) (q : SpeciesId) → want_at wanted k ≡ Holds f q 1 → (w : Wanted)
    → is_begun (take (k + 1) wanted) w ≡ (is_begun (take k wanted) w || is_of f w)
begun_more wanted k f q is Any = refl
begun_more wanted k f q is Vacant = refl
begun_more wanted k f q is (Holds e p d) =
    list_any_more (is_first_dentate e) wanted k Any (want_inside wanted k f 1 q is)
    ∙ ap (λ b. list_any (is_first_dentate e) (take k wanted) || b) (is_first f e q (want_at wanted k) is ∙ eqb-either f e)

-- or none
begun_still : (wanted : List Wanted) (k : ℕ) → k < length wanted
    → ((e : ℕ) → is_first_dentate e (want_at wanted k) ≡ false) → (w : Wanted)
    → is_begun (take (k + 1) wanted) w ≡ is_begun (take k wanted) w
begun_still wanted k within none Any = refl
begun_still wanted k within none Vacant = refl
begun_still wanted k within none (Holds e p d) =
    list_any_more (is_first_dentate e) wanted k Any within
    ∙ ap (λ b. list_any (is_first_dentate e) (take k wanted) || b) (none e)
    ∙ or-false (list_any (is_first_dentate e) (take k wanted))

-- The sites of the entities of the first k vertices are in their next states, those of the other vertices still in their
-- old ones, and so is every other site.
pub record IsProgress (wanted : List Wanted) (sites : List ℕ) (old : List State) (next : ℕ → State) (k : ℕ) (now : List State) : Type 0 where
  pub count : length now ≡ length old
  pub on : (i : ℕ) → i < length sites
      → state_at now (get_or sites i 0) ≡ cond (is_begun (take k wanted) (want_at wanted i)) (next i)
      (state_at old (get_or sites i 0))
  pub off : (s : ℕ) → is_listed sites s ≡ false → state_at now s ≡ state_at old s

-- before the first vertex
none_begun : (w : Wanted) → is_begun [] w ≡ false
none_begun Any = refl
none_begun Vacant = refl
none_begun (Holds e p d) = refl

pub progress_none : (wanted : List Wanted) (sites : List ℕ) (old : List State) (next : ℕ → State) → IsProgress wanted sites old next 0 old
progress_none wanted sites old next = record {
  count = refl;
  on = λ i low. sym (cond-false _ _ _ (none_begun (want_at wanted i)));
  off = λ s none. refl;
}

-- after one more vertex, of which no dentate 1 is wanted
pub progress_still : (wanted : List Wanted) (sites : List ℕ) (old now : List State) (next : ℕ → State) (k : ℕ)
    → k < length wanted → ((e : ℕ) → is_first_dentate e (want_at wanted k) ≡ false)
    → IsProgress wanted sites old next k now → IsProgress wanted sites old next (k + 1) now
progress_still wanted sites old now next k within none before = record {
  count = before.count;
  on = λ i low. before.on i low
      ∙ ap (λ b. cond b (next i) (state_at old (get_or sites i 0)))
      (sym (begun_still wanted k within none (want_at wanted i)));
  off = before.off;
}

next_at : (wanted : List Wanted) (w : Wanted) (old next : State) → IsWholeWant wanted w
    → (w ≡ Vacant → old ≡ next) → cond (is_begun wanted w) next old ≡ next
next_at wanted Any old next whole vacant = absurd whole
next_at wanted Vacant old next whole vacant = vacant refl
next_at wanted (Holds e p d) old next whole vacant =
    let c = whole.2 1 (omega arith) (omega (arith, whole.0, whole.1)) in
    let here : get_or wanted c.0 (Holds e p 1) ≡ Holds e p 1 = c.2 in
    cond-true _ _ _ (list_any_at (is_first_dentate e) wanted c.0 (Holds e p 1) c.1 (is_first e e p _ here ∙ eq-eqb e e refl))

-- after the last vertex
pub progress_all : (side : PatternParts) → IsSoundSide side
    → (sites : List ℕ) (old now : List State) (next : ℕ → State) (k : ℕ) → length sites ≡ length side.wanted
    → length side.wanted ≤ k → IsProgress side.wanted sites old next k now
    → ((i : ℕ) → i < length sites → want_at side.wanted i ≡ Vacant → state_at old (get_or sites i 0) ≡ next i)
    → (i : ℕ) → i < length sites → state_at now (get_or sites i 0) ≡ next i
progress_all side sound sites old now next k long past done vacant i low =
    done.on i low
    ∙ ap (λ l. cond (is_begun l (want_at side.wanted i)) (next i) (state_at old (get_or sites i 0))) (take_all k side.wanted past)
    ∙ next_at side.wanted (want_at side.wanted i) (state_at old (get_or sites i 0)) (next i) (sound.whole i Any (omega arith)) (vacant i low)

-- the entity that a vertex begins was not begun before
none_before : (side : PatternParts) → IsSoundSide side → (k e : ℕ) (p : SpeciesId) → want_at side.wanted k ≡ Holds e p 1
    → (m : ℕ) → m < k → is_first_dentate e (want_at side.wanted m) ≡ false
none_before side sound k e p first m below =
    false_from_ne_true _ (λ h.
    let want = dentate_from e 1 (want_at side.wanted m) h in
    let same = once side sound.pattern m k e 1 want.0 p want.1 first in
    omega arith)

not_begun : (side : PatternParts) → IsSoundSide side → (k e : ℕ) (p : SpeciesId) → want_at side.wanted k ≡ Holds e p 1
    → (i : ℕ) → is_of e (want_at side.wanted i) ≡ true → is_begun (take k side.wanted) (want_at side.wanted i) ≡ false
not_begun side sound k e p first i h =
    let want = of_entity e (want_at side.wanted i) h in
    let inside = want_inside side.wanted k e 1 p first in
    let short = length-take-le k side.wanted (omega arith) in
    ap (is_begun (take k side.wanted)) want.2
    ∙ list_any_none (is_first_dentate e) (take k side.wanted) (λ m d within.
    let below : m < k = omega arith in
    ap (is_first_dentate e)
    (get_or_default (take k side.wanted) m d Any within ∙ get_or-take k side.wanted m Any below)
    ∙ none_before side sound k e p first m below)

module _ (side : PatternParts) (sound : IsSoundSide side) (sites : List ℕ) (long : length sites ≡ length side.wanted)
    (different : AllPairs (λ s t. s ≢ t) sites) (k e : ℕ) (p : SpeciesId) (first : want_at side.wanted k ≡ Holds e p 1)
    (old now : List State) (next : ℕ → State) (before : IsProgress side.wanted sites old next k now) where
  -- until its vertex comes, an entity has its old states
  pub still_old : (i : ℕ) → i < length sites → is_of e (want_at side.wanted i) ≡ true
      → state_at now (get_or sites i 0) ≡ state_at old (get_or sites i 0)
  still_old i low h = before.on i low ∙ cond-false _ _ _ (not_begun side sound k e p first i h)

  -- after one more vertex, whose entity went over to its next states
  pub progress_more : (after : List State) → length after ≡ length now
      → ((i : ℕ) → i < length sites → is_of e (want_at side.wanted i) ≡ true
      → state_at after (get_or sites i 0) ≡ next i)
      → ((s : ℕ) → is_listed (entity_sites e side.wanted sites) s ≡ false → state_at after s ≡ state_at now s)
      → IsProgress side.wanted sites old next (k + 1) after
  progress_more after count there elsewhere =
      let with = begun_more side.wanted k e p first in
      record {
        count = count ∙ before.count;
        on = λ i low.
            let w = want_at side.wanted i in
            let x = is_begun (take k side.wanted) w in
            elim (cases_Bool (is_of e w)) [
              | inl h ↦ there i low h ∙ sym (cond-true _ _ _ (with w ∙ or_right x (is_of e w) h))
              | inr h ↦ elsewhere (get_or sites i 0) (listed_of side sound sites long different k e p first i low ∙ h)
                  ∙ before.on i low
                  ∙ ap (λ b. cond b (next i) (state_at old (get_or sites i 0))) (sym (with w ∙ ap (λ b. x || b) h ∙ or-false x))
            ];
        off = λ s none. elsewhere s (unlisted side sound sites long different k e p first s none) ∙ before.off s none;
      }
