-- What it means that a list names a site.
use Rattle.std.proofs.Common.{◌≡◌, ℕ, Bool, true, false, eqb, List, length, get_or, drop, Contains, refl, subst, sym, ◌∙◌, ◌+◌, ◌-◌, ◌<◌}
use Rattle.std.proofs.Common.{◌≤◌, ◌⊎◌, inl, inr, arith}
use Rattle.std.specs.List.{list_any}
use Rattle.std.proofs.lemmas.List.{get_or_default, get_or-drop, length-drop}
use Rattle.std.specs.Bool.{one_answer}
use Rattle.std.proofs.lemmas.Bool.{eqb-true, eq-eqb, cases_lt}
use Rattle.std.proofs.lemmas.List.Folds.{Any-from_list_any, list_any-from_Any}
use Rattle.lattice_core.specs.SiteList.{is_listed}

-- a list that names a site contains it
pub Contains-from_listed : (xs : List ℕ) (s : ℕ) → is_listed xs s ≡ true → Contains xs s
Contains-from_listed xs s h =
    let found = Any-from_list_any (λ t. eqb t s) xs h in
    let e : found.1 ≡ s = eqb-true _ _ found.4 in
    subst (Contains xs) e (found.0, found.2, found.3)

-- and a list names what it contains
pub listed-from_Contains : (xs : List ℕ) (s : ℕ) → Contains xs s → is_listed xs s ≡ true
listed-from_Contains xs s c = list_any-from_Any (λ t. eqb t s) xs (c.0, s, c.1, c.2, eq-eqb s s refl)

-- two lists that contain the same sites name the same sites
pub is_listed-same : (xs ys : List ℕ) (s : ℕ) → (Contains xs s → Contains ys s) → (Contains ys s → Contains xs s) → is_listed xs s ≡ is_listed ys s
is_listed-same xs ys s there back =
    one_answer {P = Contains ys s} (is_listed xs s) (is_listed ys s)
    (λ h. there (Contains-from_listed xs s h), λ c. listed-from_Contains xs s (back c))
    (Contains-from_listed ys s, listed-from_Contains ys s)

-- a test that passes some number of a list passes one that it names
pub listed-from_any : (p : ℕ → Bool) (xs : List ℕ) → list_any p xs ≡ true → (x : ℕ) × (is_listed xs x ≡ true) × (p x ≡ true)
listed-from_any p xs h =
    let found = Any-from_list_any p xs h in
    (found.1, listed-from_Contains xs found.1 (found.0, found.2, found.3), found.4)

pub any-from_listed : (p : ℕ → Bool) (xs : List ℕ) (x : ℕ) → is_listed xs x ≡ true → p x ≡ true → list_any p xs ≡ true
any-from_listed p xs x listed h =
    let c = Contains-from_listed xs x listed in
    list_any-from_Any p xs (c.0, x, c.1, c.2, h)

-- two tests that imply each other are one
pub same_answers : (a b : Bool) → (a ≡ true → b ≡ true) → (b ≡ true → a ≡ true) → a ≡ b
same_answers true b there back = sym (there refl)
same_answers false true there back = back refl
same_answers false false there back = refl

-- a number that a list names stands at some place, before another place or from it on
pub listed_split : (xs : List ℕ) (first x : ℕ) → is_listed xs x ≡ true
    → ((i : ℕ) × (i < first) × (i < length xs) × (get_or xs i 0 ≡ x)) ⊎ (is_listed (drop first xs) x ≡ true)
listed_split xs first x listed =
    let c = Contains-from_listed xs x listed in
    let at : get_or xs c.0 0 ≡ x = get_or_default xs c.0 0 x c.1 ∙ c.2 in
    elim (cases_lt c.0 first) [
      | inl low ↦ inl (c.0, low, c.1, at)
      | inr high ↦ inr (listed-from_Contains (drop first xs) x (
        c.0 - first,
        omega (arith, length-drop first xs),
        get_or-drop first xs (c.0 - first) x
            ∙ (let e : first + (c.0 - first) ≡ c.0 = omega arith in rw e c.2),
      ))
    ]

-- what stands from a place on is named
pub listed-from_drop : (xs : List ℕ) (first x : ℕ) → is_listed (drop first xs) x ≡ true → is_listed xs x ≡ true
listed-from_drop xs first x listed =
    let c = Contains-from_listed (drop first xs) x listed in
    listed-from_Contains xs x (first + c.0, omega (arith, length-drop first xs, c.1), sym (get_or-drop first xs c.0 x) ∙ c.2)

-- and so is what stands at a place
pub listed_at : (xs : List ℕ) (i : ℕ) → i < length xs → is_listed xs (get_or xs i 0) ≡ true
listed_at xs i within = listed-from_Contains xs (get_or xs i 0) (i, within, get_or_default xs i (get_or xs i 0) 0 within)

-- the place of a number that a list names
pub listed_place : (xs : List ℕ) (x : ℕ) → is_listed xs x ≡ true → (i : ℕ) × (i < length xs) × (get_or xs i 0 ≡ x)
listed_place xs x listed =
    let c = Contains-from_listed xs x listed in
    (c.0, c.1, get_or_default xs c.0 0 x c.1 ∙ c.2)

-- what stands at a place from another on is named from there on
pub listed_later : (xs : List ℕ) (first i : ℕ) → first ≤ i → i < length xs → is_listed (drop first xs) (get_or xs i 0) ≡ true
listed_later xs first i high within =
    let same : first + (i - first) ≡ i = omega arith in
    listed-from_Contains (drop first xs) (get_or xs i 0) (
      i - first,
      omega (arith, length-drop first xs),
      get_or-drop first xs (i - first) (get_or xs i 0)
          ∙ (rw same (get_or_default xs i (get_or xs i 0) 0 within)),
    )
