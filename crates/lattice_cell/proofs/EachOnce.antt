-- Lists that name each site once, once one more is added.
use Rattle.std.proofs.Common.{◌≡◌, ℕ, zero, suc, ◌+◌, ◌<◌, ◌≤◌, Bool, true, false, ◌||◌, eqb, List, [], ◌∷◌, ◌++◌, length, filter, set}
use Rattle.std.proofs.Common.{inl, inr, refl, sym}
use Rattle.std.proofs.Common.{◌∙◌, ap, subst, arith}
use Rattle.std.specs.List.{range_with_len}
use Rattle.std.proofs.Math.Bool.{or-false}
use Rattle.std.proofs.lemmas.Bool.{cases_eq, cases_Bool, eq-eqb, ne_eqb}
use Rattle.std.proofs.lemmas.List.{length-append, length-set, get_or-set_same, get_or-set_other}
use Rattle.std.proofs.lemmas.List.Elements.{filter_agree}
use Rattle.std.proofs.lemmas.List.Folds.{list_any-append}
use Rattle.lattice_core.specs.SiteList.{is_listed, list_of, merged}
use Rattle.lattice_cell.specs.Naming.{HasEachOnce}

-- a number below the first is none of them
count-below : (p : ℕ → Bool) (t a n : ℕ) → t < a
    → filter (λ x. p x || eqb t x) (range_with_len a n) ≡ filter p (range_with_len a n)
count-below p t a zero below = refl
count-below p t a (suc n) below =
    let apart : eqb t a ≡ false = ne_eqb t a (λ e. omega arith) in
    let rest = count-below p t (a + 1) n (omega arith) in
    elim (cases_Bool (p a)) [ inl here ↦ rw (here, rest) refl | inr not ↦ rw (not, apart, rest) refl ]

-- one more of the numbers passes
count-more : (p : ℕ → Bool) (t a n : ℕ) → a ≤ t → t < a + n → p t ≡ false
    → length (filter (λ x. p x || eqb t x) (range_with_len a n)) ≡ length (filter p (range_with_len a n)) + 1
count-more p t a zero low high new = absurd (omega arith)
count-more p t a (suc n) low high new =
    elim (cases_eq t a) [
      | inl e ↦ let here : eqb t a ≡ true = eq-eqb t a e in
          let not : p a ≡ false = subst (λ k. p k ≡ false) e new in
          let rest = ap length (count-below p t (a + 1) n (omega arith)) in
          rw (not, here) (omega (arith, rest))
      | inr apart ↦ let not = ne_eqb t a apart in
          let rest = count-more p t (a + 1) n (omega arith) (omega arith) new in
          elim (cases_Bool (p a)) [ inl here ↦ rw here (omega (arith, rest)) | inr none ↦ rw (none, not) rest ]
    ]

-- a list with a new site at its end is one longer when merged
merged-longer : (n t : ℕ) (list : List ℕ) → t < n → is_listed list t ≡ false
    → length (merged n (list ++ t ∷ [])) ≡ length (merged n list) + 1
unfolding merged
merged-longer n t list inside new =
    ap length (filter_agree (is_listed (list ++ t ∷ [])) (λ x. is_listed list x || eqb t x)
    (λ x. list_any-append (λ y. eqb y x) list (t ∷ []) ∙ ap (λ b. is_listed list x || b) (or-false (eqb t x)))
    (range_with_len 0 n))
    ∙ count-more (is_listed list) t 0 n (omega arith) (omega arith) new

-- each site is named once after one that was not named
pub HasEachOnce-add : (lists : List (List ℕ)) (s t : ℕ) → s < length lists → t < length lists → is_listed (list_of lists s) t ≡ false
    → HasEachOnce lists → HasEachOnce (set lists s (list_of lists s ++ t ∷ []))
HasEachOnce-add lists s t first second new once r =
    let longer = list_of lists s ++ t ∷ [] in
    let after = set lists s longer in
    let count : length after ≡ length lists = length-set lists s longer in
    elim (cases_eq r s) [
      | inl e ↦ let is : list_of after r ≡ longer = ap (list_of after) e ∙ get_or-set_same lists s longer [] first in
          let more = merged-longer (length lists) t (list_of lists s) second new in
          rw (is, count) (omega (arith, more, once s, length-append (list_of lists s) (t ∷ [])))
      | inr apart ↦ let is : list_of after r ≡ list_of lists r = get_or-set_other lists s r longer [] apart in
          rw (is, count) (once r)
    ]

-- an empty list is empty when merged
filter-none : (xs : List ℕ) → filter (λ x. false) xs ≡ []
filter-none [] = refl
filter-none (x ∷ xs) = filter-none xs

pub HasEachOnce-none : (lists : List (List ℕ)) → ((s : ℕ) → list_of lists s ≡ []) → HasEachOnce lists
unfolding merged
HasEachOnce-none lists none s = rw (none s) (ap length (sym (filter-none (range_with_len 0 (length lists)))))
