-- numbers that are sorted, each once
use Rattle.std.proofs.Common.{◌≡◌, ◌∙◌, sym, ap, ℕ, ◌+◌, ◌<◌, ◌||◌, cond, List, [], ◌∷◌, Result, Ok, Err, get_or, is_ok, length, eqb}
use Rattle.std.proofs.Common.{nat_cmp, IsPermutation, Less, Equal, Greater, inl, inr, refl, arith}
use Rattle.std.specs.List.{dedup}
use Rattle.std.specs.List.Sorted.{IsSorted, IsStrictlyIncreasing, IsSortedBy, IsBinarySearchResult, IsSearchInRange}
use Rattle.std.specs.Ordering.{eq_by_cmp, is_lt}
use Rattle.std.specs.Set.{is_member, unique_keys}
use Rattle.std.proofs.lemmas.Bool.{cases_lt, false_from_ne_true}
use Rattle.std.proofs.lemmas.Bool.Decides.{nat_tests}
use Rattle.std.proofs.lemmas.Cmp.{eq_by_cmp_equiv, nat_cmp_total, ranked}
use Rattle.std.proofs.lemmas.List.{get_or_default}
use Rattle.std.proofs.lemmas.List.Kept.{Contains-dedup_nat, Contains-from_dedup}
use Rattle.std.proofs.lemmas.List.Sorted.{Contains-permutation, IsPermutation-sym, searchable_from_sorted}
use Rattle.std.proofs.lemmas.Map.Keys.{IsDistinct-from_sorted, IsStrictlyIncreasing-dedup, sorted_from_strictly_increasing}
use Rattle.std.proofs.lemmas.Map.Made.{length-from_keys}
use Rattle.lattice_core.specs.SiteList.{is_listed}
use Rattle.lattice_core.proofs.Members.{Contains-from_listed, is_listed-same, listed-from_Contains}
use Rattle.site_rows.specs.RowFaults.{each_once}

pub rising_from_sort : (sorted kept : List ℕ) → IsSorted nat_cmp sorted → kept ≡ dedup eqb sorted → IsStrictlyIncreasing kept
rising_from_sort sorted kept order is = rw is (IsStrictlyIncreasing-dedup sorted order)

pub listed_from_sort : (before sorted kept : List ℕ) (n : ℕ) → IsPermutation before sorted → kept ≡ dedup eqb sorted
    → is_listed kept n ≡ is_listed before n
listed_from_sort before sorted kept n moved is =
    ap (λ ns. is_listed ns n) is
    ∙ is_listed-same (dedup eqb sorted) before n
    (λ c. Contains-permutation _ _ n (IsPermutation-sym _ _ moved) (Contains-from_dedup eqb _ n c))
    (λ c. Contains-dedup_nat _ n (Contains-permutation _ _ n moved c))

same_number : (q x : ℕ) → eq_by_cmp nat_cmp q x ≡ eqb x q
same_number q x = grind (arith, nat_tests)

member_listed : (xs : List ℕ) (q : ℕ) → is_member (eq_by_cmp nat_cmp) xs q ≡ is_listed xs q
member_listed [] q = refl
member_listed (x ∷ xs) q = ap (λ b. b || is_member (eq_by_cmp nat_cmp) xs q) (same_number q x) ∙ ap (λ b. eqb x q || b) (member_listed xs q)

unique_once : (xs : List ℕ) → unique_keys (eq_by_cmp nat_cmp) xs ≡ each_once xs
unique_once [] = refl
unique_once (x ∷ xs) =
    ap (λ b. cond b (unique_keys (eq_by_cmp nat_cmp) xs) (x ∷ unique_keys (eq_by_cmp nat_cmp) xs)) (member_listed xs x)
    ∙ ap (λ ns. cond (is_listed xs x) ns (x ∷ ns)) (unique_once xs)

-- numbers that rise and are those of a list are as many as it has different ones
pub count_once : (xs ns : List ℕ) → IsStrictlyIncreasing ns → ((n : ℕ) → is_listed ns n ≡ is_listed xs n) → length ns ≡ length (each_once xs)
count_once xs ns rising same =
    length-from_keys (eq_by_cmp_equiv nat_cmp_total) ns xs (IsDistinct-from_sorted nat_cmp ns (sorted_from_strictly_increasing ns rising))
    (λ q. member_listed ns q ∙ same q ∙ sym (member_listed xs q))
    ∙ ap length (unique_once xs)

-- what a search of numbers that rise answers
sorted_numbers : (xs : List ℕ) → IsStrictlyIncreasing xs → IsSortedBy (λ (a b : ℕ). is_lt (nat_cmp a b)) xs
sorted_numbers xs rising k d low high =
    let up : get_or xs k 0 < get_or xs (k + 1) 0 = rising k (omega arith) in
    let a : get_or xs k d ≡ get_or xs k 0 = get_or_default xs k d 0 (omega arith) in
    let b : get_or xs (k + 1) d ≡ get_or xs (k + 1) 0 = get_or_default xs (k + 1) d 0 high in
    rw (a, b) (grind (arith, nat_tests, up))

pub listed_from_search : (xs : List ℕ) (x : ℕ) (r : Result ℕ ℕ) → IsStrictlyIncreasing xs
    → IsSearchInRange r (length xs) → IsBinarySearchResult (λ (y : ℕ). nat_cmp y x) xs r → is_ok r ≡ is_listed xs x
listed_from_search xs x (Ok i) rising inside found =
    let at : get_or xs i x ≡ x = ranked _ x Equal (sym (found x)) in
    sym (listed-from_Contains _ x (i, inside, at))
listed_from_search xs x (Err i) rising inside none =
    let parts = none (searchable_from_sorted nat_cmp_total (λ (s : ℕ). s) xs x (sorted_numbers xs rising)) in
    sym (false_from_ne_true _ (λ h.
    let c = Contains-from_listed _ x h in
    let fits : c.0 < length xs = c.1 in
    let at : get_or xs c.0 x ≡ x = c.2 in
    elim (cases_lt c.0 i) [
      | inl low ↦ let less : get_or xs c.0 x < x = ranked _ x Less (sym (parts.0 c.0 x (omega arith) low)) in absurd (omega arith)
      | inr high ↦ let more : x < get_or xs c.0 x = ranked _ x Greater (sym (parts.1 c.0 x high fits)) in absurd (omega arith)
    ]))
