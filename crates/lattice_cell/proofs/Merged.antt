-- Lists that name what the joins join, merged, are the neighbour lists.
use Rattle.std.proofs.Common.{◌≡◌, ℕ, ◌+◌, ◌*◌, ◌<◌, ◌≤◌, true, ◌&&◌, List, [], length, filter, inl, inr, sym, ◌∙◌, ap, arith, Result, Ok, Err, IfOk}
use Rattle.std.specs.List.{range_with_len}
use Rattle.std.specs.List.Sorted.{IsStrictlyIncreasing}
use Rattle.std.proofs.lemmas.Bool.{cases_Bool, cases_lt, and_from, and_right, le-leb, lt-ltb, false≢true}
use Rattle.std.proofs.lemmas.List.{get_or_past}
use Rattle.std.proofs.lemmas.List.FromFn.{length-map-range_with_len, get_or-map-range_with_len}
use Rattle.std.proofs.lemmas.List.Kept.{IsStrictlyIncreasing-filter}
use Rattle.lattice_core.specs.SiteList.{is_listed, list_of, AreMerged}
use Rattle.lattice_core.proofs.Merging.{range-rising}
use Rattle.lattice_core.proofs.Rising.{is_listed-filter, is_listed-range}
use Rattle.lattice_cell.specs.declared.cell.Join.{Join}
use Rattle.lattice_cell.specs.Periodic.{are_joined, neighbour_lists}
use Rattle.lattice_cell.proofs.Joining.{are_joined-flip}

module _ (nx ny sites : ℕ) (joins : List Join) where
  -- there is a list for each site
  pub length-neighbour_lists : length (neighbour_lists nx ny sites joins) ≡ nx * ny * sites
  unfolding neighbour_lists
  length-neighbour_lists =
      length-map-range_with_len (λ s. filter (are_joined nx ny sites joins s) (range_with_len 0 (nx * ny * sites))) 0
      (nx * ny * sites)

  -- the list of a site
  pub list_of-neighbour_lists : (s : ℕ) → s < nx * ny * sites
      → list_of (neighbour_lists nx ny sites joins) s ≡ filter (are_joined nx ny sites joins s)
      (range_with_len 0 (nx * ny * sites))
  unfolding neighbour_lists
  list_of-neighbour_lists s within =
      get_or-map-range_with_len (λ k. filter (are_joined nx ny sites joins k) (range_with_len 0 (nx * ny * sites))) 0
      (nx * ny * sites) s s [] within (omega arith)

  -- and none past the last site
  pub list_of-past : (s : ℕ) → nx * ny * sites ≤ s → list_of (neighbour_lists nx ny sites joins) s ≡ []
  list_of-past s past = get_or_past (neighbour_lists nx ny sites joins) s [] (omega (arith, length-neighbour_lists))

  module _ (lists : List (List ℕ)) (count : length lists ≡ nx * ny * sites)
      (named : (s t : ℕ) → is_listed (list_of lists s) t ≡ are_joined nx ny sites joins s t) where
    -- a site that has neighbours is a site of the lattice
    first_inside : (s t : ℕ) → are_joined nx ny sites joins s t ≡ true → s < nx * ny * sites
    first_inside s t joined =
        elim (cases_lt s (nx * ny * sites)) [
          | inl within ↦ within
          | inr past ↦ let none : list_of lists s ≡ [] = get_or_past lists s [] (omega arith) in
              absurd (false≢true (ap (λ l. is_listed l t) (sym none) ∙ named s t ∙ joined))
        ]

    -- so each neighbour is one
    second_inside : (s t : ℕ) → are_joined nx ny sites joins s t ≡ true → t < nx * ny * sites
    second_inside s t joined = first_inside t s (are_joined-flip nx ny sites joins t s ∙ joined)

    -- the test for a site of the lattice changes nothing
    kept : (s t : ℕ) → (is_listed (range_with_len 0 (nx * ny * sites)) t && are_joined nx ny sites joins s t) ≡ are_joined nx ny sites joins s t
    kept s t =
        elim (cases_Bool (are_joined nx ny sites joins s t)) [
          | inl joined ↦ let below : t < 0 + nx * ny * sites = omega (arith, second_inside s t joined) in
              let inside : is_listed (range_with_len 0 (nx * ny * sites)) t ≡ true =
              is_listed-range 0 (nx * ny * sites) t
              ∙ and_from _ _ (le-leb 0 t (omega arith)) (lt-ltb t (0 + nx * ny * sites) below) in
              and_from _ _ inside joined ∙ sym joined
          | inr apart ↦ and_right _ _ apart ∙ sym apart
        ]

    rises : (s : ℕ) → IsStrictlyIncreasing (list_of (neighbour_lists nx ny sites joins) s)
    rises s =
        elim (cases_lt s (nx * ny * sites)) [
          | inl within ↦ rw (list_of-neighbour_lists s within)
              (IsStrictlyIncreasing-filter (are_joined nx ny sites joins s) _ (range-rising 0 (nx * ny * sites)))
          | inr past ↦ rw (list_of-past s past) (λ k h. absurd (omega arith))
        ]

    same : (s t : ℕ) → is_listed (list_of (neighbour_lists nx ny sites joins) s) t ≡ is_listed (list_of lists s) t
    same s t =
        elim (cases_lt s (nx * ny * sites)) [
          | inl within ↦ ap (λ l. is_listed l t) (list_of-neighbour_lists s within)
              ∙ is_listed-filter (are_joined nx ny sites joins s) (range_with_len 0 (nx * ny * sites)) t
              ∙ kept s t
              ∙ sym (named s t)
          | inr past ↦ let none : list_of lists s ≡ [] = get_or_past lists s [] (omega arith) in
              ap (λ l. is_listed l t) (list_of-past s past ∙ sym none)
        ]

    pub merged-neighbour_lists : AreMerged lists (neighbour_lists nx ny sites joins)
    merged-neighbour_lists = record {
      same_length = length-neighbour_lists ∙ sym count;
      rising = rises;
      same_sites = same;
    }

-- what two facts of a value tell together
pub IfOk-both : {X E : Type 0} (r : Result X E) (P Q R : X → Type 0) → ((x : X) → P x → Q x → R x) → IfOk r P → IfOk r Q → IfOk r R
IfOk-both (Ok x) P Q R both first second = both x first second
IfOk-both (Err e) P Q R both first second = tt
