-- What a sort and the removal of repeats leave of the numbers of a list of sites.
use Rattle.std.proofs.Common.{◌≡◌, ℕ, ◌+◌, ◌<◌, Bool, true, false, cond, eqb, List, [], ◌∷◌, length, refl, ap, ◌∙◌, arith, nat_cmp, IsPermutation}
use Rattle.std.specs.List.{dedup, dedup_from}
use Rattle.std.specs.List.Sorted.{IsSorted, IsStrictlyIncreasing}
use Rattle.std.proofs.lemmas.List.{get_or-map, length-map}
use Rattle.std.proofs.lemmas.List.Kept.{Contains-dedup_nat, Contains-from_dedup}
use Rattle.std.proofs.lemmas.List.Sorted.{Contains-permutation, IsPermutation-sym, IsPermutation-map}
use Rattle.std.proofs.lemmas.Map.Keys.{IsStrictlyIncreasing-dedup}
use Rattle.kmc_base.specs.declared.ids.SiteId.{SiteId}
use Rattle.lattice_core.specs.SiteList.{site_numbers, is_listed}
use Rattle.lattice_core.proofs.Members.{is_listed-same}

-- one site follows another of the same number
abbrev pub same_site : SiteId → SiteId → Bool
same_site a b = eqb a.0 b.0

-- the numbers are in order where the sites are
numbers_sorted : (xs : List SiteId) → IsSorted (λ a b. nat_cmp a.0 b.0) xs → IsSorted nat_cmp (site_numbers xs)
numbers_sorted xs h k d low high =
    let fits : k + 1 < length xs = omega (arith, length-map xs (λ (s : SiteId). s.0)) in
    let e1 = get_or-map (λ (s : SiteId). s.0) xs (k + 1) (record { 0 = d }) d fits in
    let e0 = get_or-map (λ (s : SiteId). s.0) xs k (record { 0 = d }) d (omega arith) in
    rw (e1, e0) (h k (record { 0 = d }) low fits)

-- removing repeats commutes with reading the numbers
numbers_from : (x : SiteId) (xs : List SiteId) → site_numbers (dedup_from same_site x xs) ≡ dedup_from eqb x.0 (site_numbers xs)
numbers_from x [] = refl
numbers_from x (y ∷ ys) =
    elim (eqb y.0 x.0) as (λ b. site_numbers (cond b (dedup_from same_site x ys) (x ∷ dedup_from same_site y ys))
    ≡ cond b (dedup_from eqb x.0 (site_numbers ys)) (x.0 ∷ dedup_from eqb y.0 (site_numbers ys)))
    [ true ↦ numbers_from x ys | false ↦ ap (λ l. x.0 ∷ l) (numbers_from y ys) ]

numbers-dedup : (xs : List SiteId) → site_numbers (dedup same_site xs) ≡ dedup eqb (site_numbers xs)
numbers-dedup [] = refl
numbers-dedup (x ∷ xs) = numbers_from x xs

-- after the sort and the removal the numbers rise
pub rising-from_sort : (sorted kept : List SiteId) → IsSorted (λ a b. nat_cmp a.0 b.0) sorted
    → kept ≡ dedup same_site sorted → IsStrictlyIncreasing (site_numbers kept)
rising-from_sort sorted kept order is = rw (is, numbers-dedup sorted) (IsStrictlyIncreasing-dedup (site_numbers sorted) (numbers_sorted sorted order))

-- and they are those of before
pub is_listed-from_sort : (before sorted kept : List SiteId) (s : ℕ) → IsPermutation before sorted
    → kept ≡ dedup same_site sorted → is_listed (site_numbers kept) s ≡ is_listed (site_numbers before) s
is_listed-from_sort before sorted kept s moved is =
    let numbers_moved = IsPermutation-map (λ (x : SiteId). x.0) before sorted moved in
    let e : site_numbers kept ≡ dedup eqb (site_numbers sorted) = ap site_numbers is ∙ numbers-dedup sorted in
    rw e (is_listed-same (dedup eqb (site_numbers sorted)) (site_numbers before) s
    (λ c. Contains-permutation _ _ s (IsPermutation-sym _ _ numbers_moved) (Contains-from_dedup eqb _ s c))
    (λ c. Contains-dedup_nat _ s (Contains-permutation _ _ s numbers_moved c)))
