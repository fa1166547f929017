-- What a binary search over sites in rising order finds.
use Rattle.std.proofs.Common.{◌≡◌, ℕ, ◌+◌, ◌<◌, List, Result, Ok, Err, length, get_or, sym, ◌∙◌, arith, nat_cmp, is_ok, Less, Equal}
use Rattle.std.proofs.Common.{Greater, inl, inr, eqb, Some, ap}
use Rattle.std.specs.Ordering.{is_lt}
use Rattle.std.specs.List.Sorted.{IsStrictlyIncreasing, IsSortedBy, IsBinarySearchResult, IsSearchInRange}
use Rattle.std.proofs.lemmas.Bool.{false_from_ne_true, cases_lt}
use Rattle.std.proofs.lemmas.Cmp.{ranked, nat_cmp_total}
use Rattle.std.proofs.lemmas.List.{get_or-map, length-map}
use Rattle.std.proofs.lemmas.List.Sorted.{searchable_from_sorted}
use Rattle.std.proofs.lemmas.Bool.Decides.{nat_tests}
use Rattle.kmc_base.specs.declared.ids.SiteId.{SiteId}
use Rattle.std.specs.List.{position}
use Rattle.std.specs.Result.{result_ok}
use Rattle.std.proofs.lemmas.Option.{slice_get-get_or}
use Rattle.lattice_core.proofs.Places.{position-slice_get, position-none}
use Rattle.lattice_core.specs.SiteList.{site_numbers, is_listed}
use Rattle.lattice_core.proofs.Members.{Contains-from_listed, listed-from_Contains}

-- the number of the site at a place
pub number_at : (xs : List SiteId) (i d : ℕ) → i < length xs → get_or (site_numbers xs) i d ≡ (get_or xs i (record { 0 = d })).0
number_at xs i d fits = get_or-map (λ (s : SiteId). s.0) xs i (record { 0 = d }) d fits

-- sites whose numbers rise are sorted by their numbers
sorted_sites : (xs : List SiteId) → IsStrictlyIncreasing (site_numbers xs) → IsSortedBy (λ (a b : SiteId). is_lt (nat_cmp a.0 b.0)) xs
sorted_sites xs rising k d low high =
    let same = length-map xs (λ (s : SiteId). s.0) in
    let up : get_or (site_numbers xs) k 0 < get_or (site_numbers xs) (k + 1) 0 = rising k (omega arith) in
    let a = get_or-map (λ (s : SiteId). s.0) xs k d 0 (omega arith) in
    let b = get_or-map (λ (s : SiteId). s.0) xs (k + 1) d 0 high in
    grind (arith, nat_tests, a, b, up)

-- what the search answers is whether the numbers name the site
pub is_listed-from_search : (xs : List SiteId) (x : ℕ) (r : Result ℕ ℕ) → IsStrictlyIncreasing (site_numbers xs)
    → IsSearchInRange r (length xs) → IsBinarySearchResult (λ (y : SiteId). nat_cmp y.0 x) xs r
    → is_ok r ≡ is_listed (site_numbers xs) x
is_listed-from_search xs x (Ok i) rising inside found =
    let at : (get_or xs i (record { 0 = x })).0 ≡ x = ranked _ x Equal (sym (found (record { 0 = x }))) in
    sym (listed-from_Contains _ x (i, omega (arith, length-map xs (λ (s : SiteId). s.0)), number_at xs i x inside ∙ at))
is_listed-from_search xs x (Err i) rising inside none =
    let parts = none (searchable_from_sorted nat_cmp_total (λ (s : SiteId). s.0) xs x (sorted_sites xs rising)) in
    sym (false_from_ne_true _ (λ h.
    let c = Contains-from_listed _ x h in
    let fits : c.0 < length xs = omega (arith, length-map xs (λ (s : SiteId). s.0), c.1) in
    let at : (get_or xs c.0 (record { 0 = x })).0 ≡ x = sym (number_at xs c.0 x fits) ∙ c.2 in
    elim (cases_lt c.0 i) [
      | inl low ↦ let less : (get_or xs c.0 (record { 0 = x })).0 < x =
          ranked _ x Less (sym (parts.0 c.0 (record { 0 = x }) (omega arith) low)) in absurd (omega arith)
      | inr high ↦ let more : x < (get_or xs c.0 (record { 0 = x })).0 =
          ranked _ x Greater (sym (parts.1 c.0 (record { 0 = x }) high fits)) in absurd (omega arith)
    ]))

-- and where it found it
pub position-from_search : (xs : List SiteId) (x : ℕ) (r : Result ℕ ℕ) → IsStrictlyIncreasing (site_numbers xs)
    → IsSearchInRange r (length xs) → IsBinarySearchResult (λ (y : SiteId). nat_cmp y.0 x) xs r
    → result_ok r ≡ position (λ t. eqb t x) (site_numbers xs)
position-from_search xs x (Ok i) rising inside found =
    let at : (get_or xs i (record { 0 = x })).0 ≡ x = ranked _ x Equal (sym (found (record { 0 = x }))) in
    let long : i < length (site_numbers xs) = omega (arith, inside, length-map xs (λ (s : SiteId). s.0)) in
    sym (position-slice_get (site_numbers xs) x i rising (slice_get-get_or (site_numbers xs) i x long ∙ ap Some (number_at xs i x inside ∙ at)))
position-from_search xs x (Err i) rising inside none =
    sym (position-none (site_numbers xs) x (sym (is_listed-from_search xs x (Err i) rising inside none)))
