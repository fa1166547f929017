-- Rising lists are told by what they name.
use Rattle.std.proofs.Common.{◌≡◌, ℕ, suc, ◌+◌, ◌<◌, ◌≤◌, Bool, true, false, ◌&&◌, ◌||◌, cond, eqb, ltb, leb, List, [], ◌∷◌, filter, refl}
use Rattle.std.proofs.Common.{sym, ◌∙◌, ap, subst, arith, nat_cmp, inl, inr, zero}
use Rattle.std.specs.List.{range_with_len}
use Rattle.std.specs.List.Sorted.{IsStrictlySortedBy}
use Rattle.std.proofs.Common.{Less}
use Rattle.std.proofs.lemmas.Bool.{eq-eqb, ne_eqb, cases_eq, cases_Bool, false≢true, false_from_ne_true, or_left, or_cases, and_right, eqb-true}
use Rattle.std.proofs.lemmas.Bool.Decides.{nat_tests}
use Rattle.std.proofs.lemmas.Cmp.{ranked}
use Rattle.std.proofs.lemmas.List.Elements.{All-from_recursion, All-contains}
use Rattle.std.proofs.lemmas.Map.Keys.{sorted_head, sorted_tail}
use Rattle.lattice_core.specs.SiteList.{is_listed}
use Rattle.lattice_core.proofs.Members.{Contains-from_listed}

-- a list names its first
names_first : (x : ℕ) (xs : List ℕ) → is_listed (x ∷ xs) x ≡ true
names_first x xs = or_left _ _ (eq-eqb x x refl)

-- the first of a rising list is below the rest
first_below : (x : ℕ) (xs : List ℕ) (s : ℕ) → IsStrictlySortedBy nat_cmp (x ∷ xs) → is_listed xs s ≡ true → x < s
first_below x xs s up h =
    let all = All-from_recursion (λ y. nat_cmp x y ≡ Less) xs (sorted_head nat_cmp x xs up) in
    ranked x s Less (sym (All-contains (λ y. nat_cmp x y ≡ Less) xs s all (Contains-from_listed xs s h)))

-- so it does not name its first again
first_once : (x : ℕ) (xs : List ℕ) → IsStrictlySortedBy nat_cmp (x ∷ xs) → is_listed xs x ≡ false
first_once x xs up = false_from_ne_true _ (λ h. let k : x < x = first_below x xs x up h in absurd (omega arith))

-- what names the same with an equal first names the same after it
same_rest : (x : ℕ) (xs ys : List ℕ) → IsStrictlySortedBy nat_cmp (x ∷ xs) → IsStrictlySortedBy nat_cmp (x ∷ ys)
    → ((s : ℕ) → is_listed (x ∷ xs) s ≡ is_listed (x ∷ ys) s) → (s : ℕ) → is_listed xs s ≡ is_listed ys s
same_rest x xs ys up down same s =
    elim (cases_eq x s) [
      | inl e ↦ subst (λ t. is_listed xs t ≡ is_listed ys t) e (first_once x xs up ∙ sym (first_once x ys down))
      | inr n ↦ let e : (eqb x s || is_listed xs s) ≡ (eqb x s || is_listed ys s) = same s in
          let f : eqb x s ≡ false = ne_eqb x s n in
          rw f at e
    ]

-- the first of the one is not below the first of the other
not_below : (x y : ℕ) (xs ys : List ℕ) → IsStrictlySortedBy nat_cmp (y ∷ ys) → ((s : ℕ) → is_listed (x ∷ xs) s ≡ is_listed (y ∷ ys) s) → y ≤ x
not_below x y xs ys down same =
    elim (or_cases (eqb y x) (is_listed ys x) (sym (same x) ∙ names_first x xs))
    [ inl e ↦ let k = eqb-true y x e in omega arith | inr h ↦ let k = first_below y ys x down h in omega arith ]

-- two rising lists that name the same sites are one
pub same_rising : (xs ys : List ℕ) → IsStrictlySortedBy nat_cmp xs → IsStrictlySortedBy nat_cmp ys
    → ((s : ℕ) → is_listed xs s ≡ is_listed ys s) → xs ≡ ys
same_rising [] [] up down same = refl
same_rising [] (y ∷ ys) up down same = absurd (false≢true (same y ∙ names_first y ys))
same_rising (x ∷ xs) [] up down same = absurd (false≢true (sym (same x) ∙ names_first x xs))
same_rising (x ∷ xs) (y ∷ ys) up down same =
    let low = not_below x y xs ys down same in
    let high = not_below y x ys xs up (λ s. sym (same s)) in
    let e : y ≡ x = omega arith in
    let down' = subst (λ z. IsStrictlySortedBy nat_cmp (z ∷ ys)) e down in
    let same' = subst (λ z. (s : ℕ) → is_listed (x ∷ xs) s ≡ is_listed (z ∷ ys) s) e same in
    let rest = same_rising xs ys (sorted_tail nat_cmp x xs up) (sorted_tail nat_cmp x ys down') (same_rest x xs ys up down' same') in
    subst (λ z. x ∷ xs ≡ z ∷ ys) (sym e) (ap (λ l. x ∷ l) rest)

-- one more element of a filter
filter_step : (p : ℕ → Bool) (x : ℕ) (xs kept : List ℕ) (s : ℕ) → is_listed kept s ≡ (is_listed xs s && p s)
    → is_listed (cond (p x) (x ∷ kept) kept) s ≡ ((eqb x s || is_listed xs s) && p s)
filter_step p x xs kept s ih =
    elim (cases_eq x s) [
      | inl e ↦ elim (cases_Bool (p x)) [
        | inl t ↦ let ps : p s ≡ true = subst (λ z. p z ≡ true) e t in let f = eq-eqb x s e in rw (t, ps, f) refl
        | inr u ↦ let ps : p s ≡ false = subst (λ z. p z ≡ false) e u in rw (u, ps) (ih ∙ and_right _ _ ps ∙ sym (and_right _ _ refl))
      ]
      | inr n ↦ let f = ne_eqb x s n in elim (cases_Bool (p x)) [ inl t ↦ rw (t, f) ih | inr u ↦ rw (u, f) ih ]
    ]

-- what a filter of a list names
pub is_listed-filter : (p : ℕ → Bool) (xs : List ℕ) (s : ℕ) → is_listed (filter p xs) s ≡ (is_listed xs s && p s)
is_listed-filter p [] s = refl
is_listed-filter p (x ∷ xs) s = filter_step p x xs (filter p xs) s (is_listed-filter p xs s)

-- what the numbers from a on name
pub is_listed-range : (a n s : ℕ) → is_listed (range_with_len a n) s ≡ (leb a s && ltb s (a + n))
is_listed-range a zero s = grind (arith, nat_tests)
is_listed-range a (suc n) s = let ih = is_listed-range (a + 1) n s in grind (arith, nat_tests, ih)
