-- Walks: what some steps reach, and what a search by levels has found.
use Rattle.std.proofs.Common.{◌≡◌, ℕ, zero, suc, ◌+◌, ◌<◌, ◌≤◌, true, false, leb, ltb, List, length, get_or, drop, ◌⊎◌, inl, inr, refl}
use Rattle.std.proofs.Common.{subst, sym, ◌∙◌, ap, arith}
use Rattle.std.specs.List.{list_any, range_with_len}
use Rattle.std.proofs.lemmas.Bool.{eq-eqb, eqb-true, or_left, or_right, or_cases, cases_lt, cases_Bool, both_ways, and_from, and_parts}
use Rattle.std.proofs.lemmas.Bool.{le-leb, lt-ltb, ltb-true}
use Rattle.lattice_core.specs.Ball.{has_walk, is_reached, IsDistance, IsNear}
use Rattle.lattice_core.specs.Lattice.{Lattice, IsLattice, neighbours_of}
use Rattle.lattice_core.specs.SiteList.{is_listed, Adds, BeginsWith}
use Rattle.lattice_core.proofs.Members.{Contains-from_listed, listed-from_Contains, listed-from_any, any-from_listed, same_answers}
use Rattle.lattice_core.proofs.Members.{listed_split, listed-from_drop, listed_place, listed_later}
use Rattle.std.proofs.lemmas.List.{get_or-take}
use Rattle.lattice_core.proofs.Rising.{is_listed-range}

-- a walk of at most so many steps leads from one of the starts to a site
pub record Reached (lattice : Lattice) (start : List ℕ) (k s : ℕ) : Type 0 where
  pub from : ℕ
  pub steps : ℕ
  pub starts : is_listed start from ≡ true
  pub within : steps ≤ k
  pub walk : has_walk lattice from s steps ≡ true

-- the test computes it
pub Reached-from_test : (lattice : Lattice) (start : List ℕ) (k s : ℕ) → is_reached lattice start k s ≡ true → Reached lattice start k s
unfolding is_reached
Reached-from_test lattice start k s h =
    let a = listed-from_any (λ c. list_any (has_walk lattice c s) (range_with_len 0 (k + 1))) start h in
    let b = listed-from_any (has_walk lattice a.0 s) (range_with_len 0 (k + 1)) a.2 in
    let bound : (leb 0 b.0 ≡ true) × (ltb b.0 (0 + (k + 1)) ≡ true) = and_parts _ _ (sym (is_listed-range 0 (k + 1) b.0) ∙ b.1) in
    let below : b.0 < 0 + (k + 1) = ltb-true _ _ bound.1 in
    record { from = a.0; steps = b.0; starts = a.1; within = omega arith; walk = b.2 }

pub test-from_Reached : (lattice : Lattice) (start : List ℕ) (k s : ℕ) → Reached lattice start k s → is_reached lattice start k s ≡ true
unfolding is_reached
test-from_Reached lattice start k s r =
    let inside = is_listed-range 0 (k + 1) r.steps
    ∙ and_from _ _ (le-leb 0 r.steps (omega arith)) (lt-ltb r.steps (0 + (k + 1)) (omega (arith, r.within))) in
    any-from_listed _ start r.from r.starts (any-from_listed (has_walk lattice r.from s) (range_with_len 0 (k + 1)) r.steps inside r.walk)

-- no step stays, and a step goes to a neighbour
walk_none : (lattice : Lattice) (a : ℕ) → has_walk lattice a a 0 ≡ true
unfolding has_walk
walk_none lattice a = eq-eqb a a refl

walk_start : (lattice : Lattice) (a b : ℕ) → has_walk lattice a b 0 ≡ true → a ≡ b
unfolding has_walk
walk_start lattice a b h = eqb-true a b h

walk_more : (lattice : Lattice) (a b c n : ℕ) → has_walk lattice a c n ≡ true
    → is_listed (neighbours_of lattice b) c ≡ true → has_walk lattice a b (suc n) ≡ true
unfolding has_walk
walk_more lattice a b c n walk listed = any-from_listed (λ x. has_walk lattice a x n) (neighbours_of lattice b) c listed walk

walk_last : (lattice : Lattice) (a b n : ℕ) → has_walk lattice a b (suc n) ≡ true
    → (c : ℕ) × (is_listed (neighbours_of lattice b) c ≡ true) × (has_walk lattice a c n ≡ true)
unfolding has_walk
walk_last lattice a b n h = listed-from_any (λ x. has_walk lattice a x n) (neighbours_of lattice b) h

-- the neighbours of the sites before a place are named too
abbrev pub IsClosed : Lattice → List ℕ → ℕ → Type 0
IsClosed lattice xs first = (i t : ℕ) → i < first → i < length xs → is_listed (neighbours_of lattice (get_or xs i 0)) t ≡ true → is_listed xs t ≡ true

-- before the first step
pub reached_start : (lattice : Lattice) (start : List ℕ) (s : ℕ) → is_listed start s ≡ is_reached lattice start 0 s
reached_start lattice start s =
    same_answers _ _
    (λ h. test-from_Reached lattice start 0 s (record { from = s; steps = 0; starts = h; within = omega arith; walk = walk_none lattice s }))
    (λ h.
    let r = Reached-from_test lattice start 0 s h in
    let none : r.steps ≡ 0 = omega (arith, r.within) in
    let e : r.from ≡ s = walk_start lattice r.from s (rw none at r.walk) in
    subst (λ x. is_listed start x ≡ true) e r.starts)

module _ (lattice : Lattice) (is : IsLattice lattice) (start xs : List ℕ) (k first : ℕ)
    (found : (s : ℕ) → is_listed xs s ≡ is_reached lattice start k s) (closed : IsClosed lattice xs first) where
  -- what was found is reached
  reached : (s : ℕ) → is_listed xs s ≡ true → Reached lattice start k s
  reached s h = Reached-from_test lattice start k s (sym (found s) ∙ h)

  listed : (s : ℕ) → Reached lattice start k s → is_listed xs s ≡ true
  listed s r = found s ∙ test-from_Reached lattice start k s r

  -- the last step of a walk of one step more
  last_step : (ys : List ℕ) → Adds xs ys (λ s. list_any (λ f. is_listed (neighbours_of lattice f) s) (drop first xs))
      → (s : ℕ) (r : Reached lattice start (k + 1) s) → r.steps ≡ suc k → is_listed ys s ≡ true
  last_step ys adds s r e =
      let m = walk_last lattice r.from s k (rw e at r.walk) in
      let before = listed m.0 (record { from = r.from; steps = k; starts = r.starts; within = omega arith; walk = m.2 }) in
      let next = is.symmetric s m.0 m.1 in
      elim (listed_split xs first m.0 before) [
        | inl p ↦ adds s ∙ or_left _ _ (closed p.0 s p.1 p.2 (rw p.3 next))
        | inr later ↦ adds s ∙ or_right _ _ (any-from_listed (λ f. is_listed (neighbours_of lattice f) s) (drop first xs) m.0 later next)
      ]

  -- one step on
  pub reached_more : (ys : List ℕ)
      → Adds xs ys (λ s. list_any (λ f. is_listed (neighbours_of lattice f) s) (drop first xs)) → (s : ℕ)
      → is_listed ys s ≡ is_reached lattice start (k + 1) s
  reached_more ys adds s =
      same_answers _ _
      (λ h. elim (or_cases _ _ (sym (adds s) ∙ h)) [
        | inl old ↦ let r = reached s old in
            test-from_Reached lattice start (k + 1) s
            (record {
              from = r.from;
              steps = r.steps;
              starts = r.starts;
              within = omega (arith, r.within);
              walk = r.walk;
            })
        | inr new ↦ let f = listed-from_any _ (drop first xs) new in
            let r = reached f.0 (listed-from_drop xs first f.0 f.1) in
            test-from_Reached lattice start (k + 1) s
            (record {
              from = r.from;
              steps = suc r.steps;
              starts = r.starts;
              within = omega (arith, r.within);
              walk = walk_more lattice r.from s f.0 r.steps r.walk (is.symmetric f.0 s f.2);
            })
      ])
      (λ h.
      let r = Reached-from_test lattice start (k + 1) s h in
      elim (cases_lt r.steps (k + 1)) [
        | inl low ↦ adds s ∙ or_left _ _
            (listed s (record {
              from = r.from;
              steps = r.steps;
              starts = r.starts;
              within = omega arith;
              walk = r.walk;
            }))
        | inr high ↦ last_step ys adds s r (omega (arith, r.within))
      ])

  -- what is named stays closed
  pub closed_more : (ys : List ℕ) → BeginsWith ys xs
      → Adds xs ys (λ s. list_any (λ f. is_listed (neighbours_of lattice f) s) (drop first xs))
      → IsClosed lattice ys (length xs)
  closed_more ys front adds i t low within h =
      let e : get_or ys i 0 ≡ get_or xs i 0 = sym (get_or-take (length xs) ys i 0 low) ∙ ap (λ l. get_or l i 0) front in
      let next = rw e at h in
      elim (cases_lt i first) [
        | inl early ↦ adds t ∙ or_left _ _ (closed i t early low next)
        | inr late ↦ adds t ∙ or_right _ _
            (any-from_listed (λ f. is_listed (neighbours_of lattice f) t) (drop first xs) (get_or xs i 0)
            (listed_later xs first i late low) next)
      ]

  -- where every place was closed, each walk from a start stays in the list
  along : length xs ≤ first → (c : ℕ) → is_listed start c ≡ true → (n s : ℕ) → has_walk lattice c s n ≡ true → is_listed xs s ≡ true
  along all c starts zero s walk =
      subst (λ x. is_listed xs x ≡ true) (walk_start lattice c s walk)
      (listed c (record { from = c; steps = 0; starts = starts; within = omega arith; walk = walk_none lattice c }))
  along all c starts (suc n) s walk =
      let m = walk_last lattice c s n walk in
      let p = listed_place xs m.0 (along all c starts n m.0 m.2) in
      closed p.0 s (omega arith) p.1 (rw p.2 (is.symmetric s m.0 m.1))

  -- so more steps find no more
  pub reached_all : (radius : ℕ) → k ≤ radius → length xs ≤ first → (s : ℕ) → is_listed xs s ≡ is_reached lattice start radius s
  reached_all radius far all s =
      same_answers _ _
      (λ h.
      let r = reached s h in
      test-from_Reached lattice start radius s
      (record {
        from = r.from;
        steps = r.steps;
        starts = r.starts;
        within = omega (arith, r.within);
        walk = r.walk;
      }))
      (λ h.
      let r = Reached-from_test lattice start radius s h in
      along all r.from r.starts r.steps s r.walk)

-- no walk is shorter than the first one that is found
least_of : (lattice : Lattice) (a b k : ℕ) → ((m : ℕ) → m < k → has_walk lattice a b m ≡ false) → (m : ℕ) → has_walk lattice a b m ≡ true → k ≤ m
least_of lattice a b k none m h = elim (cases_lt m k) [ inl low ↦ absurd (both_ways _ (none m low) h) | inr high ↦ high ]

no_more : (lattice : Lattice) (a b k : ℕ) → ((m : ℕ) → m < k → has_walk lattice a b m ≡ false)
    → has_walk lattice a b k ≡ false → (m : ℕ) → m < suc k → has_walk lattice a b m ≡ false
no_more lattice a b k none last m h =
    elim (cases_lt m k) [ inl low ↦ none m low | inr high ↦ (let e : k ≡ m = omega arith in subst (λ x. has_walk lattice a b x ≡ false) e last) ]

-- the distance, where there is a walk of fewer than so many steps
distance_below : (lattice : Lattice) (a b k : ℕ) → ((n : ℕ) × IsDistance lattice a b n × (n < k)) ⊎ ((m : ℕ) → m < k → has_walk lattice a b m ≡ false)
distance_below lattice a b zero = inr (λ m h. absurd (omega arith))
distance_below lattice a b (suc k) =
    elim (distance_below lattice a b k) [
      | inl d ↦ inl (d.0, d.1, omega (arith, d.2))
      | inr none ↦ elim (cases_Bool (has_walk lattice a b k)) [
        | inl walk ↦ inl (k, record { walk = walk; least = λ m h. least_of lattice a b k none m h }, omega arith)
        | inr no_walk ↦ inr (λ m h. no_more lattice a b k none no_walk m h)
      ]
    ]

-- a site is near exactly where it is reached
pub near_reached : (lattice : Lattice) (centres : List ℕ) (radius s : ℕ) → is_reached lattice centres radius s ≡ true
    → IsNear lattice centres radius s
near_reached lattice centres radius s h =
    let r = Reached-from_test lattice centres radius s h in
    elim (distance_below lattice r.from s (suc r.steps)) [
      | inl d ↦ (r.from, d.0, Contains-from_listed centres r.from r.starts, d.1, omega (arith, d.2, r.within))
      | inr none ↦ absurd (both_ways _ (none r.steps (omega arith)) r.walk)
    ]

pub reached_near : (lattice : Lattice) (centres : List ℕ) (radius s : ℕ) → IsNear lattice centres radius s
    → is_reached lattice centres radius s ≡ true
reached_near lattice centres radius s near =
    test-from_Reached lattice centres radius s
    (record {
      from = near.0;
      steps = near.1;
      starts = listed-from_Contains centres near.0 near.2;
      within = near.4;
      walk = near.3.walk;
    })
