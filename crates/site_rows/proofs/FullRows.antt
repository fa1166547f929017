-- as many rows as sites, without a fault, give lists of neighbours without a fault
use Rattle.std.proofs.Common.{◌≡◌, ◌∙◌, sym, ap, ℕ, ◌+◌, ◌-◌, ◌<◌, ◌&&◌, inl, inr, Bool, true, false, not, List, [], ◌∷◌, None, Some}
use Rattle.std.proofs.Common.{eqb, find, is_some, leb, length, ltb, map, nat_lt, refl, arith}
use Rattle.std.specs.List.{list_any, range_with_len}
use Rattle.std.specs.List.Sorted.{IsStrictlyIncreasing}
use Rattle.std.specs.Option.{option_map, option_map_or}
use Rattle.std.proofs.lemmas.Bool.{and_parts, both_ways, cases_Bool, cond-false, eq-eqb, false_from_ne_true, ltb-true, not-false}
use Rattle.std.proofs.lemmas.Bool.{or_left, or_parts, or_right}
use Rattle.std.proofs.lemmas.Bool.Decides.{nat_tests}
use Rattle.std.proofs.lemmas.List.FromFn.{get_or-map-range_with_len, length-map-range_with_len}
use Rattle.std.proofs.lemmas.List.Kept.{IsStrictlyIncreasing-filter}
use Rattle.lattice_core.specs.Fault.{fault_among, first_fault, has_bad_site, has_itself, has_too_many, merged_of, one_sided, site_fault}
use Rattle.lattice_core.specs.SiteList.{is_listed, list_of, merged}
use Rattle.lattice_core.specs.declared.fault.GraphFault.TheVariants.{OneSided}
use Rattle.lattice_core.specs.declared.graph.TheConstants.{MAX_NEIGHBOURS}
use Rattle.lattice_core.proofs.Faults.{fault-one_sided}
use Rattle.lattice_core.proofs.Members.{any-from_listed}
use Rattle.lattice_core.proofs.Merging.{All-below, below-listed, listed-below, range-rising}
use Rattle.lattice_core.proofs.Rising.{is_listed-filter, is_listed-range}
use Rattle.site_rows.specs.Listed.{listed_neighbours, neighbours_at}
use Rattle.site_rows.specs.RowFaults.{each_once, is_one_sided, rows_fault}
use Rattle.site_rows.specs.RowFaults.{has_bad_site as names_bad_site}
use Rattle.site_rows.specs.SiteNumbers.{is_no_site}
use Rattle.site_rows.specs.SiteRows.{SiteRow, row_for}
use Rattle.site_rows.proofs.FaultlessRows.{HasNoFault}
use Rattle.site_rows.proofs.NumberLists.{count_once}
use Rattle.site_rows.proofs.SitesOfRows.{row_given}

-- sites from 0 in place of sites from 1
abbrev from_zero : List ℕ → List ℕ
from_zero ns = map (λ n. n - 1) ns

list_any-false : (p : ℕ → Bool) (xs : List ℕ) (x : ℕ) → list_any p xs ≡ false → is_listed xs x ≡ true → p x ≡ false
list_any-false p xs x none listed = false_from_ne_true (p x) (λ passed. both_ways (list_any p xs) none (any-from_listed p xs x listed passed))

module _ (n : ℕ) where
  -- sites from 1 to n are sites below n
  none_bad : (ns : List ℕ) → list_any (is_no_site (Some n)) ns ≡ false → list_any (λ t. leb n t) (from_zero ns) ≡ false
  none_bad [] good = refl
  none_bad (x ∷ xs) good =
      let parts = or_parts (is_no_site (Some n) x) (list_any (is_no_site (Some n)) xs) good in
      let here : leb n (x - 1) ≡ false = let first = parts.0 in grind (arith, nat_tests, first) in
      rw (here, none_bad xs parts.1) refl

  -- the same sites are listed
  listed_less : (ns : List ℕ) (s : ℕ) → list_any (is_no_site (Some n)) ns ≡ false → is_listed (from_zero ns) s ≡ is_listed ns (s + 1)
  listed_less [] s good = refl
  listed_less (x ∷ xs) s good =
      let parts = or_parts (is_no_site (Some n) x) (list_any (is_no_site (Some n)) xs) good in
      let here : eqb (x - 1) s ≡ eqb x (s + 1) = let first = parts.0 in grind (arith, nat_tests, first) in
      rw (here, listed_less xs s parts.1) refl

  -- as many different ones
  each_once_less : (ns : List ℕ) → list_any (is_no_site (Some n)) ns ≡ false → length (each_once (from_zero ns)) ≡ length (each_once ns)
  each_once_less [] good = refl
  each_once_less (x ∷ xs) good =
      let parts = or_parts (is_no_site (Some n) x) (list_any (is_no_site (Some n)) xs) good in
      let back : x - 1 + 1 ≡ x = let first = parts.0 in grind (arith, nat_tests, first) in
      let again : is_listed (from_zero xs) (x - 1) ≡ is_listed xs x = listed_less xs (x - 1) parts.1 ∙ ap (is_listed xs) back in
      let rest = each_once_less xs parts.1 in
      elim (cases_Bool (is_listed xs x)) [ inl t ↦ rw (again, t) rest | inr f ↦ rw (again, f) (omega (arith, rest)) ]

  -- a list of sites below n names what it does once it is merged
  merged_names : (list : List ℕ) → list_any (λ t. leb n t) list ≡ false → (s : ℕ) → is_listed (merged n list) s ≡ is_listed list s
  unfolding merged
  merged_names list good s =
      let range = is_listed-range 0 n s in
      let filtered = is_listed-filter (is_listed list) (range_with_len 0 n) s in
      let below = listed-below n list s (All-below n list good) in
      grind (arith, nat_tests, range, filtered, below)

  merged_rises : (list : List ℕ) → IsStrictlyIncreasing (merged n list)
  unfolding merged
  merged_rises list = IsStrictlyIncreasing-filter (is_listed list) (range_with_len 0 n) (range-rising 0 n)

  -- so the sites of a row, merged, are as many as the row has different neighbours
  count_merged : (ns : List ℕ) → list_any (is_no_site (Some n)) ns ≡ false → length (merged n (from_zero ns)) ≡ length (each_once ns)
  count_merged ns good =
      count_once (from_zero ns) (merged n (from_zero ns)) (merged_rises (from_zero ns)) (merged_names (from_zero ns) (none_bad ns good))
      ∙ each_once_less ns good

-- nothing is found where no number of a list passes
find_nothing : (p : ℕ → Bool) (xs : List ℕ) → ((t : ℕ) → is_listed xs t ≡ true → p t ≡ false) → find p xs ≡ None
find_nothing p [] fails = refl
find_nothing p (x ∷ xs) fails =
    let here : p x ≡ false = fails x (or_left _ _ (eq-eqb x x refl)) in
    cond-false (p x) (Some x) (find p xs) here ∙ find_nothing p xs (λ t listed. fails t (or_right _ _ listed))

-- where no site has a fault there is no first one
none_among : (lists : List (List ℕ)) (sites : List ℕ) → ((s : ℕ) → is_listed sites s ≡ true → site_fault lists s ≡ None)
    → fault_among lists sites ≡ None
none_among lists [] fails = refl
none_among lists (x ∷ xs) fails =
    let here : site_fault lists x ≡ None = fails x (or_left _ _ (eq-eqb x x refl)) in
    cond-false (is_some (site_fault lists x)) (site_fault lists x) (fault_among lists xs) (ap is_some here)
    ∙ none_among lists xs (λ s listed. fails s (or_right _ _ listed))

-- a site that passes the four tests has no fault
tests_pass : (lists : List (List ℕ)) (s : ℕ) → has_bad_site lists s ≡ false → has_itself lists s ≡ false → has_too_many lists s ≡ false
    → one_sided lists s ≡ None → site_fault lists s ≡ None
tests_pass lists s bad own many sided = fault-one_sided lists s bad own many ∙ ap (option_map (OneSided s)) sided

module _ (n : ℕ) (rows : List SiteRow) (none : rows_fault (Some n) rows ≡ None) (full : length rows ≡ n) where
  abbrev lists : List (List ℕ)
  lists = listed_neighbours n rows

  count : length lists ≡ n
  count = length-map-range_with_len (neighbours_at rows) 0 n

  -- the list of a site is that of its row, which has no fault
  record HasRow (s : ℕ) : Type 0 where
    row : SiteRow
    given : row_for (s + 1) rows ≡ Some row
    site : row.site ≡ s + 1
    sound : HasNoFault (Some n) rows row
    good : list_any (is_no_site (Some n)) row.neighbours ≡ false
    list : list_of lists s ≡ from_zero row.neighbours

  has_row : (s : ℕ) → s < n → HasRow s
  has_row s within =
      let found = row_given n rows none full (s + 1) (omega (arith, within), omega (arith, within)) in
      record {
        row = found.0;
        given = found.1;
        site = found.2;
        sound = found.3;
        good = (or_parts (is_no_site (Some n) found.0.site) (list_any (is_no_site (Some n)) found.0.neighbours) found.3.good).1;
        list = get_or-map-range_with_len (neighbours_at rows) 0 n s s [] within (omega arith)
            ∙ ap (λ r. option_map_or (λ (row : SiteRow). from_zero row.neighbours) r []) found.1;
      }

  -- each neighbour is a site
  no_bad_site : (s : ℕ) → HasRow s → has_bad_site lists s ≡ false
  no_bad_site s has = rw (count, has.list) (none_bad n has.row.neighbours has.good)

  -- no site is its own neighbour
  not_itself : (s : ℕ) → HasRow s → has_itself lists s ≡ false
  not_itself s has =
      ap (λ l. is_listed l s) has.list ∙ listed_less n has.row.neighbours s has.good
      ∙ ap (is_listed has.row.neighbours) (sym has.site) ∙ has.sound.not_own

  -- no site has too many
  not_too_many : (s : ℕ) → HasRow s → has_too_many lists s ≡ false
  not_too_many s has =
      rw (count, has.list) (ap (nat_lt MAX_NEIGHBOURS) (count_merged n has.row.neighbours has.good) ∙ has.sound.few)

  -- a neighbour in the row of a site has a row that names the site
  named_back : (s : ℕ) (has : HasRow s) (t : ℕ) → HasRow t → is_listed has.row.neighbours (t + 1) ≡ true → is_listed (list_of lists t) s ≡ true
  named_back s has t other listed =
      let apart = list_any-false (is_one_sided (Some n) rows has.row.site) has.row.neighbours (t + 1) has.sound.two_sided listed in
      let answer : (not (names_bad_site (Some n) other.row) && not (is_listed other.row.neighbours has.row.site)) ≡ false =
      ap (λ r. option_map_or (λ (row : SiteRow). not (names_bad_site (Some n) row) && not (is_listed row.neighbours has.row.site)) r false)
      (sym other.given) ∙ apart in
      let named : is_listed other.row.neighbours has.row.site ≡ true =
      not-false _ (rw other.sound.good at answer) in
      ap (λ l. is_listed l s) other.list ∙ listed_less n other.row.neighbours s other.good
      ∙ ap (is_listed other.row.neighbours) (sym has.site) ∙ named

  not_one_sided : (s : ℕ) → HasRow s → one_sided lists s ≡ None
  not_one_sided s has =
      find_nothing (λ t. not (is_listed (list_of lists t) s)) (merged_of lists s)
      (λ t listed.
      let merged_is : merged_of lists s ≡ merged n (from_zero has.row.neighbours) = rw (count, has.list) refl in
      let below = none_bad n has.row.neighbours has.good in
      let named : is_listed (from_zero has.row.neighbours) t ≡ true =
      sym (merged_names n (from_zero has.row.neighbours) below t) ∙ ap (λ l. is_listed l t) (sym merged_is) ∙ listed in
      let within = below-listed n (from_zero has.row.neighbours) t (All-below n (from_zero has.row.neighbours) below) named in
      ap not (named_back s has t (has_row t within) (sym (listed_less n has.row.neighbours t has.good) ∙ named)))

  pub no_first_fault : first_fault lists ≡ None
  no_first_fault =
      none_among lists (range_with_len 0 (length lists)) (λ s listed.
      let inside = and_parts (leb 0 s) (ltb s (0 + length lists)) (sym (is_listed-range 0 (length lists) s) ∙ listed) in
      let within : s < 0 + length lists = ltb-true s (0 + length lists) inside.1 in
      let has = has_row s (omega (arith, within, count)) in
      tests_pass lists s (no_bad_site s has) (not_itself s has) (not_too_many s has) (not_one_sided s has))
