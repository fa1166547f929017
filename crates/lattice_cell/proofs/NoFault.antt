-- The lists of neighbours of a cell without a fault have none.
use Rattle.std.proofs.Common.{◌≡◌, ◌∙◌, sym, ap, ℕ, ◌+◌, ◌*◌, ◌<◌, ◌&&◌, All, Bool, true, false, not, List, [], ◌∷◌, None, Some}
use Rattle.std.proofs.Common.{find, is_some, leb, length, ltb, refl, arith}
use Rattle.std.specs.List.{list_any, range_with_len}
use Rattle.std.specs.List.Sorted.{IsStrictlyIncreasing}
use Rattle.std.specs.Option.{option_map}
use Rattle.std.proofs.lemmas.Bool.{and_from, and_parts, both_ways, cond-false, eq-eqb, false_from_ne_true, le-leb, leb-true, lt-ltb, ltb-true}
use Rattle.std.proofs.lemmas.Bool.{or_left, or_right}
use Rattle.std.proofs.lemmas.List.Folds.{list_any_at}
use Rattle.std.proofs.lemmas.List.Kept.{IsStrictlyIncreasing-filter}
use Rattle.lattice_core.specs.Fault.{fault_among, first_fault, has_bad_site, has_itself, has_too_many, merged_of, one_sided, site_fault}
use Rattle.lattice_core.specs.SiteList.{is_listed, list_of}
use Rattle.lattice_core.specs.declared.fault.GraphFault.TheVariants.{OneSided}
use Rattle.lattice_core.proofs.Faults.{fault-one_sided}
use Rattle.lattice_core.proofs.Members.{listed-from_any}
use Rattle.lattice_core.proofs.Merging.{All-below, merged-is, range-rising}
use Rattle.lattice_core.proofs.Rising.{is_listed-filter, is_listed-range}
use Rattle.lattice_cell.specs.Cells.{IsInCell}
use Rattle.lattice_cell.specs.Faultless.{IsFaultlessCell}
use Rattle.lattice_cell.specs.Periodic.{are_joined, neighbour_lists}
use Rattle.lattice_cell.specs.declared.cell.Join.{Join}
use Rattle.lattice_cell.proofs.Crowded.{is_long}
use Rattle.lattice_cell.proofs.Ends.{not_itself}
use Rattle.lattice_cell.proofs.Joining.{are_joined-flip}
use Rattle.lattice_cell.proofs.Merged.{length-neighbour_lists, list_of-neighbour_lists}

-- nothing is found where no number of a list passes
find_nothing : (p : ℕ → Bool) (xs : List ℕ) → ((t : ℕ) → is_listed xs t ≡ true → p t ≡ false) → find p xs ≡ None
find_nothing p [] fails = refl
find_nothing p (x ∷ xs) fails =
    let here : p x ≡ false = fails x (or_left _ _ (eq-eqb x x refl)) in
    cond-false (p x) (Some x) (find p xs) here ∙ find_nothing p xs (λ t listed. fails t (or_right _ _ listed))

-- where no site has a fault there is no first one
none_among : (lists : List (List ℕ)) (sites : List ℕ) → ((s : ℕ) → is_listed sites s ≡ true → site_fault lists s ≡ None)
    → fault_among lists sites ≡ None
none_among lists [] fails = refl
none_among lists (x ∷ xs) fails =
    let here : site_fault lists x ≡ None = fails x (or_left _ _ (eq-eqb x x refl)) in
    cond-false (is_some (site_fault lists x)) (site_fault lists x) (fault_among lists xs) (ap is_some here)
    ∙ none_among lists xs (λ s listed. fails s (or_right _ _ listed))

-- a site that passes the four tests has no fault
tests_pass : (lists : List (List ℕ)) (s : ℕ) → has_bad_site lists s ≡ false → has_itself lists s ≡ false → has_too_many lists s ≡ false
    → one_sided lists s ≡ None → site_fault lists s ≡ None
tests_pass lists s bad own many sided = fault-one_sided lists s bad own many ∙ ap (option_map (OneSided s)) sided

module _ (nx ny sites : ℕ) (joins : List Join) (ends : All (IsInCell sites) joins) (cell : IsFaultlessCell nx ny sites joins) where
  abbrev lists : List (List ℕ)
  lists = neighbour_lists nx ny sites joins

  count : length lists ≡ nx * ny * sites
  count = length-neighbour_lists nx ny sites joins

  below : (s n : ℕ) → is_listed (range_with_len 0 n) s ≡ true → s < n
  below s n listed =
      let inside = and_parts (leb 0 s) (ltb s (0 + n)) (sym (is_listed-range 0 n s) ∙ listed) in
      let low : s < 0 + n = ltb-true s (0 + n) inside.1 in
      omega (arith, low)

  -- a site lists the sites that are joined to it
  what_listed : (s t : ℕ) → s < nx * ny * sites
      → is_listed (list_of lists s) t ≡ (is_listed (range_with_len 0 (nx * ny * sites)) t && are_joined nx ny sites joins s t)
  what_listed s t within =
      ap (λ l. is_listed l t) (list_of-neighbour_lists nx ny sites joins s within)
      ∙ is_listed-filter (are_joined nx ny sites joins s) (range_with_len 0 (nx * ny * sites)) t

  is_site : (s t : ℕ) → s < nx * ny * sites → is_listed (list_of lists s) t ≡ true → t < nx * ny * sites
  is_site s t within listed =
      below t (nx * ny * sites) (and_parts (is_listed (range_with_len 0 (nx * ny * sites)) t) (are_joined nx ny sites joins s t)
      (sym (what_listed s t within) ∙ listed)).0

  is_joined : (s t : ℕ) → s < nx * ny * sites → is_listed (list_of lists s) t ≡ true → are_joined nx ny sites joins s t ≡ true
  is_joined s t within listed =
      (and_parts (is_listed (range_with_len 0 (nx * ny * sites)) t) (are_joined nx ny sites joins s t) (sym (what_listed s t within) ∙ listed)).1

  -- each of them is a site
  no_bad_site : (s : ℕ) → s < nx * ny * sites → has_bad_site lists s ≡ false
  no_bad_site s within =
      false_from_ne_true (has_bad_site lists s) (λ bad.
      let found = listed-from_any (λ t. leb (length lists) t) (list_of lists s) bad in
      let low = is_site s found.0 within found.1 in
      let high = leb-true (length lists) found.0 found.2 in
      absurd (omega (arith, low, high, count)))

  -- none is the site itself
  no_own : (s : ℕ) → s < nx * ny * sites → has_itself lists s ≡ false
  no_own s within =
      false_from_ne_true (has_itself lists s) (λ own.
      both_ways (are_joined nx ny sites joins s s) (not_itself nx ny sites joins ends cell.none_itself s) (is_joined s s within own))

  rises : (s : ℕ) → s < nx * ny * sites → IsStrictlyIncreasing (list_of lists s)
  rises s within =
      rw (list_of-neighbour_lists nx ny sites joins s within)
      (IsStrictlyIncreasing-filter (are_joined nx ny sites joins s) (range_with_len 0 (nx * ny * sites)) (range-rising 0 (nx * ny * sites)))

  -- they rise, each once
  is_merged : (s : ℕ) → s < nx * ny * sites → list_of lists s ≡ merged_of lists s
  is_merged s within =
      merged-is (length lists) (list_of lists s) (list_of lists s)
      (All-below (length lists) (list_of lists s) (no_bad_site s within)) (rises s within) (λ t. refl)

  -- so there are few
  not_too_many : (s : ℕ) → s < nx * ny * sites → has_too_many lists s ≡ false
  not_too_many s within =
      ap is_long (sym (is_merged s within))
      ∙ false_from_ne_true (is_long (list_of lists s)) (λ long.
      both_ways (list_any is_long lists) cell.none_crowded (list_any_at is_long lists s [] (omega (arith, within, count)) long))

  -- and each lists the site too
  named_back : (s : ℕ) → s < nx * ny * sites → (t : ℕ) → is_listed (list_of lists s) t ≡ true → is_listed (list_of lists t) s ≡ true
  named_back s within t listed =
      let here : is_listed (range_with_len 0 (nx * ny * sites)) s ≡ true =
      is_listed-range 0 (nx * ny * sites) s
      ∙ and_from (leb 0 s) (ltb s (0 + nx * ny * sites)) (le-leb 0 s (omega arith)) (lt-ltb s (0 + nx * ny * sites) (omega (arith, within))) in
      what_listed t s (is_site s t within listed)
      ∙ and_from _ _ here (are_joined-flip nx ny sites joins t s ∙ is_joined s t within listed)

  not_one_sided : (s : ℕ) → s < nx * ny * sites → one_sided lists s ≡ None
  not_one_sided s within =
      find_nothing (λ t. not (is_listed (list_of lists t) s)) (merged_of lists s)
      (λ t listed. ap not (named_back s within t (ap (λ l. is_listed l t) (is_merged s within) ∙ listed)))

  pub no_first_fault : first_fault lists ≡ None
  no_first_fault =
      none_among lists (range_with_len 0 (length lists)) (λ s listed.
      let within : s < nx * ny * sites = let low = below s (length lists) listed in omega (arith, low, count) in
      tests_pass lists s (no_bad_site s within) (no_own s within) (not_too_many s within) (not_one_sided s within))
