-- Lists that name the same have the same faults, and lists without a fault make a lattice.
use Rattle.std.proofs.Common.{◌≡◌, ℕ, ◌+◌, ◌<◌, ◌≤◌, Bool, true, false, not, List, [], ◌∷◌, length, map, All, Option, Some, None, inl}
use Rattle.std.proofs.Common.{inr, refl, sym, ◌∙◌, ap, arith}
use Rattle.std.specs.List.{range_with_len, list_any}
use Rattle.std.specs.List.Sorted.{IsStrictlyIncreasing}
use Rattle.std.specs.Option.{option_map}
use Rattle.std.proofs.lemmas.Bool.{cases_Bool, cases_lt, ltb-false, lt-ltb, false≢true, not-false, and_from, le-leb}
use Rattle.std.proofs.lemmas.List.{get_or_past, same_lists, get_or-map, length-map, get_or_default}
use Rattle.std.proofs.lemmas.List.Elements.{All-nil}
use Rattle.std.proofs.lemmas.List.Folds.{Any-from_list_any, list_any-from_Any}
use Rattle.std.proofs.lemmas.Option.{none-some}
use Rattle.kmc_base.specs.declared.limits.TheConstants.{MAX_SITES}
use Rattle.lattice_core.specs.declared.graph.TheConstants.{MAX_NEIGHBOURS}
use Rattle.lattice_core.specs.declared.fault.GraphFault.{GraphFault}
use Rattle.lattice_core.specs.Fault.{has_bad_site, has_itself, has_too_many, one_sided, site_fault, fault_among, first_fault, merged_of}
use Rattle.lattice_core.specs.Lattice.{IsLattice}
use Rattle.lattice_core.specs.SiteList.{is_listed, list_of, merged, AreMerged}
use Rattle.lattice_core.proofs.Faults.{fault-bad_site, fault-itself, fault-too_many, fault-one_sided, site_fault-none}
use Rattle.lattice_core.proofs.Members.{Contains-from_listed, listed-from_Contains, same_answers}
use Rattle.lattice_core.proofs.Merging.{All-below, merged-is, merged-same}
use Rattle.lattice_core.proofs.Rising.{is_listed-range}
use Rattle.lattice_core.proofs.Finding.{find-agree, fails-from_none}

-- a test passes some number of both lists, or of neither
list_any-same : (p : ℕ → Bool) (xs ys : List ℕ) → ((s : ℕ) → is_listed xs s ≡ is_listed ys s) → list_any p xs ≡ true → list_any p ys ≡ true
list_any-same p xs ys same h =
    let found = Any-from_list_any p xs h in
    let listed = listed-from_Contains xs found.1 (found.0, found.2, found.3) in
    let c = Contains-from_listed ys found.1 (sym (same found.1) ∙ listed) in
    list_any-from_Any p ys (c.0, found.1, c.1, c.2, found.4)

module _ (before after : List (List ℕ)) (is : AreMerged before after) where
  bad_site-same : (s : ℕ) → has_bad_site after s ≡ has_bad_site before s
  bad_site-same s =
      let same = is.same_sites s in
      let e = is.same_length in
      rw e (same_answers _ _ (list_any-same _ _ _ same) (list_any-same _ _ _ (λ t. sym (same t))))

  merged_of-same : (s : ℕ) → merged_of after s ≡ merged_of before s
  merged_of-same s = rw is.same_length (merged-same (length before) _ _ (is.same_sites s))

  one_sided-same : (s : ℕ) → one_sided after s ≡ one_sided before s
  one_sided-same s =
      rw (merged_of-same s)
      (find-agree _ _ (λ t. ap not (is.same_sites t s)) (merged_of before s))

  site_fault-same : (s : ℕ) → site_fault after s ≡ site_fault before s
  unfolding site_fault
  site_fault-same s = rw (bad_site-same s, is.same_sites s s, one_sided-same s, merged_of-same s) refl

  fault_among-same : (sites : List ℕ) → fault_among after sites ≡ fault_among before sites
  fault_among-same [] = refl
  fault_among-same (x ∷ xs) = rw (site_fault-same x, fault_among-same xs) refl

  pub first_fault-same : first_fault after ≡ first_fault before
  first_fault-same = rw is.same_length (fault_among-same (range_with_len 0 (length before)))

-- what is true of the list of a site that has no fault
pub record Sound (lists : List (List ℕ)) (s : ℕ) : Type 0 where
  pub sites : All (λ t. t < length lists) (list_of lists s)
  pub few : length (list_of lists s) ≤ MAX_NEIGHBOURS
  pub not_own : is_listed (list_of lists s) s ≡ false
  pub two_sided : (t : ℕ) → is_listed (list_of lists s) t ≡ true → is_listed (list_of lists t) s ≡ true

none_from_map : (f : ℕ → GraphFault) (o : Option ℕ) → option_map f o ≡ None → o ≡ None
none_from_map f None h = refl
none_from_map f (Some x) h = absurd (none-some (f x) (sym h))

-- the three tests fail, and no neighbour is one-sided
tests-none : (lists : List (List ℕ)) (s : ℕ) → site_fault lists s ≡ None → (has_bad_site lists s ≡ false)
    × (has_itself lists s ≡ false) × (has_too_many lists s ≡ false) × (one_sided lists s ≡ None)
tests-none lists s none =
    elim (cases_Bool (has_bad_site lists s)) [
      | inl a ↦ absurd (none-some _ (sym none ∙ fault-bad_site lists s a))
      | inr a ↦ elim (cases_Bool (has_itself lists s)) [
        | inl b ↦ absurd (none-some _ (sym none ∙ fault-itself lists s a b))
        | inr b ↦ elim (cases_Bool (has_too_many lists s)) [
          | inl d ↦ absurd (none-some _ (sym none ∙ fault-too_many lists s a b d))
          | inr d ↦ (a, b, d, none_from_map _ (one_sided lists s) (sym (fault-one_sided lists s a b d) ∙ none))
        ]
      ]
    ]

module _ (lists : List (List ℕ)) (rising : (s : ℕ) → IsStrictlyIncreasing (list_of lists s)) where
  sound-from_none : (s : ℕ) → site_fault lists s ≡ None → Sound lists s
  sound-from_none s none =
      let tests = tests-none lists s none in
      let sites = All-below (length lists) (list_of lists s) tests.0 in
      let is : list_of lists s ≡ merged_of lists s = merged-is (length lists) (list_of lists s) (list_of lists s) sites (rising s) (λ t. refl) in
      record {
        sites = sites;
        few = rw is (ltb-false _ _ tests.2);
        not_own = tests.1;
        two_sided = λ t h. not-false _ (fails-from_none _ _ t tests.3 (rw is at h));
      }

  -- every site is sound where the lists have no fault, and past the last there is no list
  sound : first_fault lists ≡ None → (s : ℕ) → Sound lists s
  sound none s =
      elim (cases_lt s (length lists)) [
        | inl within ↦ sound-from_none s
            (site_fault-none lists (range_with_len 0 (length lists)) s none
            (is_listed-range 0 (length lists) s
            ∙ and_from _ _ (le-leb 0 s (omega arith)) (lt-ltb s (0 + length lists) (omega arith))))
        | inr past ↦ let e : list_of lists s ≡ [] = get_or_past lists s [] past in
            record {
              sites = rw e (All-nil (λ t. t < length lists));
              few = rw e (omega arith);
              not_own = rw e refl;
              two_sided = λ t h. absurd (false≢true (rw e at h));
            }
      ]

  pub lattice-from_sound : (types : List ℕ) → length types ≡ length lists → 1 ≤ length types
      → length types ≤ MAX_SITES → first_fault lists ≡ None → IsLattice (record { types = types; neighbours = lists })
  lattice-from_sound types lengths some limit none = record {
    has_a_site = some;
    within_limit = limit;
    one_list_each = sym lengths;
    are_sites = λ s. rw lengths ((sound none s).sites);
    rising = rising;
    few = λ s. (sound none s).few;
    none_its_own = λ s. (sound none s).not_own;
    symmetric = λ s t h. (sound none s).two_sided t h;
  }

-- the lists are those of before, merged
pub lists-merged : (before after : List (List ℕ)) → AreMerged before after → first_fault after ≡ None → after ≡ map (merged (length before)) before
lists-merged before after is none =
    let lengths = length-map before (merged (length before)) in
    same_lists after (map (merged (length before)) before) (omega (arith, lengths, is.same_length))
    (λ k d within.
    let within' : k < length before = omega (arith, is.same_length) in
    let sites = (sound after is.rising none k).sites in
    let sites' = rw is.same_length at sites in
    let merged_k = merged-is (length before) (list_of before k) (list_of after k) sites' (is.rising k) (is.same_sites k) in
    get_or_default after k d [] within ∙ merged_k ∙ sym (get_or-map (merged (length before)) before k [] d within'))
