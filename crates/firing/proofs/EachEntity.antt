-- The entities of a side taken off their sites, or put on them, one after the other.
use Rattle.std.proofs.Common.{◌≡◌, ℕ, zero, suc, ◌+◌, ◌-◌, ◌<◌, ◌≤◌, false, List, [], ◌∷◌, length, get_or, take, All}
use Rattle.std.proofs.Common.{Option, None, Some, slice_index, refl, subst, sym, ◌∙◌, ap, arith}
use Rattle.std.specs.List.{cons_option, fold}
use Rattle.std.proofs.lemmas.Bool.{cond-true, cond-false}
use Rattle.std.proofs.lemmas.List.{get_or_default, take_all, take_more}
use Rattle.std.proofs.lemmas.List.Elements.{filter_map-append}
use Rattle.std.proofs.lemmas.List.Sums.{fold-append}
use Rattle.firing.specs.Entities.{entities, entity_sites, first_of, size_of}
use Rattle.firing.specs.Firing.{CanClear, CanSet, cleared_side, set_side}
use Rattle.firing.specs.Sides.{home_of, is_first_dentate, state_for, states_for, with_states}
use Rattle.firing.specs.Soundness.{HasDentates, HasItsDentates}
use Rattle.firing.proofs.EntitySites.{listed_of, own_all, own_at, own_count, own_different, own_home, own_some, vertex_of}
use Rattle.firing.proofs.Placed.{after_cleared, cleared-length, in_state, next_of, put-length, put_off, put_on, side-is, whole_from}
use Rattle.firing.proofs.Progress.{IsProgress, progress_all, progress_more, progress_none, progress_still, still_old}
use Rattle.firing.proofs.Wants.{first_from, is_of-holds, none_first, of_entity, one_species, want_at, want_inside, whole_want}
use Rattle.kmc_base.specs.declared.ids.SpeciesId.{SpeciesId}
use Rattle.lattice_core.specs.Config.{state_at, held, put, cleared, IsWholeAdsorbate, IsWellFormed}
use Rattle.lattice_core.specs.SiteList.{is_listed}
use Rattle.lattice_core.specs.declared.state.State.{State}
use Rattle.lattice_core.specs.declared.state.State.TheVariants.{Vacant as Free}
use Rattle.lattice_core.proofs.Adsorbates.{cleared-well_formed, put-well_formed}
use Rattle.pattern_types.specs.Parts.{PatternParts}
use Rattle.pattern_types.specs.declared.wanted.Wanted.{Wanted}
use Rattle.pattern_types.specs.declared.wanted.Wanted.TheVariants.{Any, Holds}

-- ---- the entities of some vertices

-- what a step makes of the states, for each entity that the first vertices begin
abbrev pub done_until : (List State → ℕ × SpeciesId → List State) → List Wanted → ℕ → List State → List State
done_until step wanted k states = fold step states (entities (take k wanted))

module _ (step : List State → ℕ × SpeciesId → List State) (wanted : List Wanted) (states : List State) where
  done_more : (k : ℕ) → k < length wanted → (o : Option (ℕ × SpeciesId)) → first_of (want_at wanted k) ≡ o
      → done_until step wanted (k + 1) states ≡ fold step (done_until step wanted k states) (cons_option o [])
  done_more k within o is =
      ap (λ l. fold step states (entities l)) (take_more wanted k Any within)
      ∙ ap (fold step states) (filter_map-append first_of (take k wanted) (want_at wanted k ∷ []))
      ∙ fold-append step states (entities (take k wanted)) (cons_option (first_of (want_at wanted k)) [])
      ∙ ap (λ p. fold step (done_until step wanted k states) (cons_option p [])) is

  -- the next vertex begins an entity
  pub done_with : (k : ℕ) → k < length wanted → (x : ℕ × SpeciesId) → first_of (want_at wanted k) ≡ Some x
      → done_until step wanted (k + 1) states ≡ step (done_until step wanted k states) x
  done_with k within x is = done_more k within (Some x) is

  -- or none
  pub done_without : (k : ℕ) → k < length wanted → first_of (want_at wanted k) ≡ None
      → done_until step wanted (k + 1) states ≡ done_until step wanted k states
  done_without k within is = done_more k within None is

  pub done_all : (k : ℕ) → length wanted ≤ k → done_until step wanted k states ≡ fold step states (entities wanted)
  done_all k past = ap (λ l. fold step states (entities l)) (take_all k wanted past)

  one_more : (Q : ℕ → List State → Type 0)
      → ((k : ℕ) → k < length wanted → (x : ℕ × SpeciesId) → want_at wanted k ≡ Holds x.0 x.1 1 → (now : List State) → Q k now
      → Q (k + 1) (step now x))
      → ((k : ℕ) → k < length wanted → ((e : ℕ) → is_first_dentate e (want_at wanted k) ≡ false) → (now : List State) → Q k now → Q (k + 1) now)
      → (k : ℕ) → k < length wanted → Q k (done_until step wanted k states) → (o : Option (ℕ × SpeciesId))
      → first_of (want_at wanted k) ≡ o → Q (k + 1) (done_until step wanted (k + 1) states)
  one_more Q with without k within before None is =
      subst (Q (k + 1)) (sym (done_without k within is)) (without k within (none_first (want_at wanted k) is) _ before)
  one_more Q with without k within before (Some x) is =
      subst (Q (k + 1)) (sym (done_with k within x is)) (with k within x (first_from (want_at wanted k) x is) _ before)

  -- what holds at first, and after one more vertex, holds after each vertex
  pub by_vertices : (Q : ℕ → List State → Type 0) → Q 0 states
      → ((k : ℕ) → k < length wanted → (x : ℕ × SpeciesId) → want_at wanted k ≡ Holds x.0 x.1 1 → (now : List State) → Q k now
      → Q (k + 1) (step now x))
      → ((k : ℕ) → k < length wanted → ((e : ℕ) → is_first_dentate e (want_at wanted k) ≡ false) → (now : List State) → Q k now → Q (k + 1) now)
      → (k : ℕ) → k ≤ length wanted → Q k (done_until step wanted k states)
  by_vertices Q at_first with without zero low = at_first
  by_vertices Q at_first with without (suc k) low =
      let before = by_vertices Q at_first with without k (omega arith) in
      let next : k + 1 ≡ suc k = omega arith in
      subst (λ n. Q n (done_until step wanted n states)) next
      (one_more Q with without k (omega arith) before (first_of (want_at wanted k)) refl)

-- an entity has as many dentates as its species
pub has_dentates : (dentates : ℕ → ℕ) (side : PatternParts) → HasDentates dentates side → (k e d : ℕ) (p : SpeciesId)
    → want_at side.wanted k ≡ Holds e p d → size_of e side.wanted ≡ dentates p.0
has_dentates dentates side has k e d p is =
    subst (HasItsDentates dentates side.wanted) is (has k Any (want_inside side.wanted k e d p is))

-- ---- entities taken off

-- the states once an entity is taken off its sites
abbrev pub clear_entity : PatternParts → List ℕ → List State → ℕ × SpeciesId → List State
clear_entity side sites now x = cleared now (entity_sites x.0 side.wanted sites)

module _ (side : PatternParts) (sites : List ℕ) (old : List State) (can : CanClear side sites old) where
  -- the entities of the first k vertices are off, and the states are well formed
  IsCleared : ℕ → List State → Type 0
  IsCleared k now = IsProgress side.wanted sites old (λ i. Free) k now × IsWellFormed can.well_formed.0 now
      × ((dentates : ℕ → ℕ) → IsWellFormed dentates old → IsWellFormed dentates now)

  -- an entity that is still there is a whole adsorbate
  whole_entity : (k : ℕ) (x : ℕ × SpeciesId) → want_at side.wanted k ≡ Holds x.0 x.1 1 → (now : List State)
      → IsProgress side.wanted sites old (λ i. Free) k now → IsWellFormed can.well_formed.0 now
      → IsWholeAdsorbate now (entity_sites x.0 side.wanted sites)
  whole_entity k x first now before well_formed =
      let e = x.0 in
      let p = x.1 in
      let long = can.placed.vertices in
      let different = can.placed.different in
      let own = entity_sites e side.wanted sites in
      let count = own_count side can.sound sites long different k e p first in
      whole_from can.well_formed.0 now p.0 (home_of e side.wanted sites) own well_formed
      (own_some side can.sound sites long different k e p first)
      (count ∙ has_dentates can.well_formed.0 side can.well_formed.1 k e 1 p first) (λ m low.
      let v = vertex_of side can.sound sites long different k e p first m low in
      let next : m + 1 ≡ 1 + m = omega arith in
      ap (state_at now) v.3
      ∙ still_old side can.sound sites long different k e p first old now (λ i. Free) before v.0 v.1 (is_of-holds e (m + 1) p _ v.2)
      ∙ in_state side sites long old can.in_states v.0 v.1
      ∙ ap (state_for side sites) v.2
      ∙ ap (λ n. held p.0 n (home_of e side.wanted sites)) next)

  -- and then it is off
  clear_more : (k : ℕ) (x : ℕ × SpeciesId) → want_at side.wanted k ≡ Holds x.0 x.1 1 → (now : List State)
      → IsProgress side.wanted sites old (λ i. Free) k now
      → IsProgress side.wanted sites old (λ i. Free) (k + 1) (clear_entity side sites now x)
  clear_more k x first now before =
      let own = entity_sites x.0 side.wanted sites in
      let long = can.placed.vertices in
      let different = can.placed.different in
      progress_more side can.sound sites long different k x.0 x.1 first old now (λ i. Free) before
      (clear_entity side sites now x) (cleared-length now own)
      (λ i low h.
      after_cleared now own (get_or sites i 0)
      ∙ cond-true _ _ _ (listed_of side can.sound sites long different k x.0 x.1 first i low ∙ h))
      (λ s none. after_cleared now own s ∙ cond-false _ _ _ none)

  cleared_until : (k : ℕ) → k ≤ length side.wanted → IsCleared k (done_until (clear_entity side sites) side.wanted k old)
  unfolding IsCleared
  cleared_until =
      by_vertices (clear_entity side sites) side.wanted old IsCleared
      (progress_none side.wanted sites old (λ i. Free), can.well_formed.2, λ dentates well_formed. well_formed)
      (λ k within x first now at.
      let whole = whole_entity k x first now at.0 at.1 in (
        clear_more k x first now at.0,
        cleared-well_formed now (entity_sites x.0 side.wanted sites) whole can.well_formed.0 at.1,
        λ dentates well_formed. cleared-well_formed now (entity_sites x.0 side.wanted sites) whole dentates (at.2 dentates well_formed),
      ))
      (λ k within none now at. (progress_still side.wanted sites old now (λ i. Free) k within none at.0, at.1, at.2))

  -- the next entity can be taken off
  pub whole_next : (k : ℕ) (x : ℕ × SpeciesId) → want_at side.wanted k ≡ Holds x.0 x.1 1
      → IsWholeAdsorbate (done_until (clear_entity side sites) side.wanted k old) (entity_sites x.0 side.wanted sites)
  unfolding IsCleared
  whole_next k x first =
      let within = want_inside side.wanted k x.0 1 x.1 first in
      let at = cleared_until k (omega arith) in
      whole_entity k x first _ at.0 at.1

  all_cleared : IsCleared (length side.wanted) (cleared_side side sites old)
  all_cleared =
      subst (IsCleared (length side.wanted)) (done_all (clear_entity side sites) side.wanted old (length side.wanted) (omega arith))
      (cleared_until (length side.wanted) (omega arith))

  -- once all are off, each site is vacant, every other one is as it was, and the states are well formed
  pub cleared_count : length (cleared_side side sites old) ≡ length old
  unfolding IsCleared
  cleared_count = all_cleared.0.count

  pub cleared_vacant : All (λ s. state_at (cleared_side side sites old) s ≡ Free) sites
  unfolding IsCleared
  cleared_vacant i d low =
      ap (state_at (cleared_side side sites old)) (get_or_default sites i d 0 low)
      ∙ progress_all side can.sound sites old (cleared_side side sites old) (λ i. Free) (length side.wanted)
      can.placed.vertices (omega arith) all_cleared.0
      (λ j within want. in_state side sites can.placed.vertices old can.in_states j within ∙ ap (state_for side sites) want)
      i low

  pub cleared_elsewhere : (s : ℕ) → is_listed sites s ≡ false → state_at (cleared_side side sites old) s ≡ state_at old s
  unfolding IsCleared
  cleared_elsewhere s none = all_cleared.0.off s none

  pub cleared_well_formed : (dentates : ℕ → ℕ) → IsWellFormed dentates old → IsWellFormed dentates (cleared_side side sites old)
  unfolding IsCleared
  cleared_well_formed dentates well_formed = all_cleared.2 dentates well_formed

-- ---- entities put on

-- the states once an entity is put on its sites
abbrev pub set_entity : PatternParts → List ℕ → List State → ℕ × SpeciesId → List State
set_entity side sites now x = put now x.1.0 (entity_sites x.0 side.wanted sites)

module _ (side : PatternParts) (sites : List ℕ) (old : List State) (can : CanSet side sites old) where
  -- the entities of the first k vertices are on, and the states are well formed
  IsSet : ℕ → List State → Type 0
  IsSet k now = IsProgress side.wanted sites old (next_of side sites) k now
      × ((dentates : ℕ → ℕ) → HasDentates dentates side → IsWellFormed dentates old → IsWellFormed dentates now)

  -- where an entity is put on, the sites are different sites, and vacant
  own_inside : (k : ℕ) (x : ℕ × SpeciesId) → want_at side.wanted k ≡ Holds x.0 x.1 1 → (now : List State)
      → IsProgress side.wanted sites old (next_of side sites) k now
      → All (λ s. s < length now) (entity_sites x.0 side.wanted sites)
  own_inside k x first now before m d within =
      let count = before.count in
      let low = own_all side can.sound sites can.placed.vertices can.placed.different k x.0 x.1 first (λ s. s < length old)
      can.placed.inside m d within in
      omega arith

  own_vacant : (k : ℕ) (x : ℕ × SpeciesId) → want_at side.wanted k ≡ Holds x.0 x.1 1 → (now : List State)
      → IsProgress side.wanted sites old (next_of side sites) k now
      → All (λ s. state_at now s ≡ Free) (entity_sites x.0 side.wanted sites)
  own_vacant k x first now before m d within =
      let long = can.placed.vertices in
      let different = can.placed.different in
      let v = vertex_of side can.sound sites long different k x.0 x.1 first m within in
      ap (state_at now) (get_or_default (entity_sites x.0 side.wanted sites) m d 0 within ∙ v.3)
      ∙ still_old side can.sound sites long different k x.0 x.1 first old now (next_of side sites) before v.0 v.1
      (is_of-holds x.0 (m + 1) x.1 _ v.2)
      ∙ can.vacant v.0 0 v.1

  -- the dentate that is put on a site is the one that is wanted of it
  dentate_put : (k : ℕ) (x : ℕ × SpeciesId) → want_at side.wanted k ≡ Holds x.0 x.1 1 → (i d : ℕ) (q : SpeciesId)
      → want_at side.wanted i ≡ Holds x.0 q d
      → held x.1.0 (1 + (d - 1)) (slice_index (entity_sites x.0 side.wanted sites) 0) ≡ next_of side sites i
  dentate_put k x first i d q want =
      let home = slice_index (entity_sites x.0 side.wanted sites) 0 in
      let whole = whole_want side can.sound i x.0 d q want in
      let species = one_species side can.sound.pattern k i x.0 1 d x.1 q first want in
      let dentate : 1 + (d - 1) ≡ d = omega (arith, whole.0) in
      ap (λ n. held n (1 + (d - 1)) home) species
      ∙ ap (λ n. held q.0 n home) dentate
      ∙ ap (held q.0 d) (own_home side can.sound sites can.placed.vertices can.placed.different k x.0 x.1 first)
      ∙ sym (ap (state_for side sites) want)

  -- and then it is on
  set_more : (k : ℕ) (x : ℕ × SpeciesId) → want_at side.wanted k ≡ Holds x.0 x.1 1 → (now : List State)
      → IsProgress side.wanted sites old (next_of side sites) k now
      → IsProgress side.wanted sites old (next_of side sites) (k + 1) (set_entity side sites now x)
  set_more k x first now before =
      let own = entity_sites x.0 side.wanted sites in
      let long = can.placed.vertices in
      let different = can.placed.different in
      progress_more side can.sound sites long different k x.0 x.1 first old now (next_of side sites) before
      (set_entity side sites now x) (put-length now x.1.0 own)
      (λ i low h.
      let want = of_entity x.0 (want_at side.wanted i) h in
      let at = own_at side can.sound sites long different k x.0 x.1 first i want.1 want.0 want.2 in
      ap (state_at (put now x.1.0 own)) (sym at.1)
      ∙ put_on now x.1.0 own (own_different side can.sound sites long different k x.0 x.1 first) (own_inside k x first now before)
      (want.1 - 1) at.0
      ∙ dentate_put k x first i want.1 want.0 want.2)
      (λ s none. put_off now x.1.0 own s none)

  set_until : (k : ℕ) → k ≤ length side.wanted → IsSet k (done_until (set_entity side sites) side.wanted k old)
  unfolding IsSet
  set_until =
      by_vertices (set_entity side sites) side.wanted old IsSet
      (progress_none side.wanted sites old (next_of side sites), λ dentates has well_formed. well_formed)
      (λ k within x first now at.
      let long = can.placed.vertices in
      let different = can.placed.different in (
        set_more k x first now at.0,
        λ dentates has well_formed.
            put-well_formed now x.1.0 (entity_sites x.0 side.wanted sites)
            (own_different side can.sound sites long different k x.0 x.1 first) (own_inside k x first now at.0)
            (own_vacant k x first now at.0) (own_some side can.sound sites long different k x.0 x.1 first) dentates
            (sym (own_count side can.sound sites long different k x.0 x.1 first ∙ has_dentates dentates side has k x.0 1 x.1 first))
            (at.1 dentates has well_formed),
      ))
      (λ k within none now at. (progress_still side.wanted sites old now (next_of side sites) k within none at.0, at.1))

  -- the next entity can be put on
  pub inside_next : (k : ℕ) (x : ℕ × SpeciesId) → want_at side.wanted k ≡ Holds x.0 x.1 1
      → All (λ s. s < length (done_until (set_entity side sites) side.wanted k old)) (entity_sites x.0 side.wanted sites)
  unfolding IsSet
  inside_next k x first =
      let within = want_inside side.wanted k x.0 1 x.1 first in
      own_inside k x first _ (set_until k (omega arith)).0

  pub vacant_next : (k : ℕ) (x : ℕ × SpeciesId) → want_at side.wanted k ≡ Holds x.0 x.1 1
      → All (λ s. state_at (done_until (set_entity side sites) side.wanted k old) s ≡ Free) (entity_sites x.0 side.wanted sites)
  unfolding IsSet
  vacant_next k x first =
      let within = want_inside side.wanted k x.0 1 x.1 first in
      own_vacant k x first _ (set_until k (omega arith)).0

  all_set : IsSet (length side.wanted) (set_side side sites old)
  all_set =
      subst (IsSet (length side.wanted)) (done_all (set_entity side sites) side.wanted old (length side.wanted) (omega arith))
      (set_until (length side.wanted) (omega arith))

  -- once all are on, the states are those of the side, and well formed
  pub set_states : set_side side sites old ≡ with_states (states_for side sites) old
  unfolding IsSet
  set_states =
      let done = all_set.0 in
      side-is side sites can.placed.vertices old (set_side side sites old) can.placed.different can.placed.inside done.count
      (λ i low.
      progress_all side can.sound sites old (set_side side sites old) (next_of side sites) (length side.wanted)
      can.placed.vertices (omega arith) done
      (λ j within want. can.vacant j 0 within ∙ sym (ap (state_for side sites) want)) i low)
      done.off

  pub set_well_formed : (dentates : ℕ → ℕ) → HasDentates dentates side → IsWellFormed dentates old → IsWellFormed dentates (set_side side sites old)
  unfolding IsSet
  set_well_formed dentates has well_formed = all_set.1 dentates has well_formed
