-- A rising list is the filter that it passes.
use Rattle.std.proofs.Common.{◌≡◌, ℕ, ◌+◌, ◌<◌, Bool, true, false, ◌&&◌, ltb, leb, List, get_or, filter, All, inl, inr, refl, sym, ◌∙◌, ap, arith}
use Rattle.std.specs.List.{range_with_len, list_any}
use Rattle.std.specs.List.Sorted.{IsStrictlyIncreasing}
use Rattle.std.proofs.lemmas.Bool.{cases_Bool, leb-false, both_ways, lt-ltb, and_right}
use Rattle.std.proofs.lemmas.Bool.Decides.{nat_tests}
use Rattle.std.proofs.lemmas.List.Elements.{All-contains, filter_agree}
use Rattle.std.proofs.lemmas.List.Folds.{list_any_at}
use Rattle.std.proofs.lemmas.List.FromFn.{length-range_with_len, get_or-range_with_len}
use Rattle.std.proofs.lemmas.List.Kept.{IsStrictlyIncreasing-filter}
use Rattle.std.proofs.lemmas.Map.Keys.{sorted_from_strictly_increasing}
use Rattle.lattice_core.specs.SiteList.{is_listed, merged}
use Rattle.lattice_core.proofs.Members.{Contains-from_listed}
use Rattle.lattice_core.proofs.Rising.{same_rising, is_listed-filter, is_listed-range}

-- the numbers from a on rise
pub range-rising : (a n : ℕ) → IsStrictlyIncreasing (range_with_len a n)
range-rising a n k within =
    let low : k + 1 < n = omega (arith, length-range_with_len a n) in
    omega (arith, get_or-range_with_len a n k 0 (omega arith), get_or-range_with_len a n (k + 1) 0 low)

-- a rising list of what passes below a number
pub rising_is_filter : (p : ℕ → Bool) (n : ℕ) (xs : List ℕ) → IsStrictlyIncreasing xs
    → ((s : ℕ) → is_listed xs s ≡ (ltb s n && p s)) → xs ≡ filter p (range_with_len 0 n)
rising_is_filter p n xs rising names =
    let kept = filter p (range_with_len 0 n) in
    let kept_rising : IsStrictlyIncreasing kept = IsStrictlyIncreasing-filter p _ (range-rising 0 n) in
    same_rising xs kept (sorted_from_strictly_increasing xs rising) (sorted_from_strictly_increasing kept kept_rising)
    (λ s. let r = is_listed-range 0 n s in let f = is_listed-filter p (range_with_len 0 n) s in let e = names s in grind (arith, nat_tests, r, f, e))

-- each number of a list is below a bound where none is not
pub All-below : (n : ℕ) (xs : List ℕ) → list_any (λ t. leb n t) xs ≡ false → All (λ t. t < n) xs
All-below n xs none k d within =
    elim (cases_Bool (leb n (get_or xs k d)))
    [ inl t ↦ absurd (both_ways _ none (list_any_at (λ x. leb n x) xs k d within t)) | inr f ↦ leb-false _ _ f ]

-- what a list of sites names is a site
pub below-listed : (n : ℕ) (xs : List ℕ) (s : ℕ) → All (λ t. t < n) xs → is_listed xs s ≡ true → s < n
below-listed n xs s below h = All-contains (λ t. t < n) xs s below (Contains-from_listed xs s h)

-- so the test for a site changes nothing
pub listed-below : (n : ℕ) (xs : List ℕ) (s : ℕ) → All (λ t. t < n) xs → is_listed xs s ≡ (ltb s n && is_listed xs s)
listed-below n xs s below =
    elim (cases_Bool (is_listed xs s))
    [ inl t ↦ let e = lt-ltb s n (below-listed n xs s below t) in rw (t, e) refl | inr f ↦ rw f (sym (and_right (ltb s n) false refl)) ]

-- a rising list of sites that names what a list does is that list, merged
pub merged-is : (n : ℕ) (list xs : List ℕ) → All (λ t. t < n) xs → IsStrictlyIncreasing xs
    → ((s : ℕ) → is_listed xs s ≡ is_listed list s) → xs ≡ merged n list
unfolding merged
merged-is n list xs below rising same =
    rising_is_filter (is_listed list) n xs rising (λ s. listed-below n xs s below ∙ ap (λ b. ltb s n && b) (same s))

-- lists that name the same are merged to the same
pub merged-same : (n : ℕ) (xs ys : List ℕ) → ((s : ℕ) → is_listed xs s ≡ is_listed ys s) → merged n xs ≡ merged n ys
unfolding merged
merged-same n xs ys same = filter_agree (is_listed xs) (is_listed ys) same (range_with_len 0 n)

-- the numbers from a on are below a bound
pub range-below : (a n : ℕ) → All (λ s. s < a + n) (range_with_len a n)
range-below a n k d within =
    let low : k < n = omega (arith, length-range_with_len a n) in
    omega (arith, get_or-range_with_len a n k d low)
