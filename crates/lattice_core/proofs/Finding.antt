-- The steps of a search that goes along a list.
use Rattle.std.proofs.Common.{◌≡◌, ℕ, ◌+◌, ◌<◌, ◌≤◌, Bool, true, false, List, [], ◌∷◌, length, get_or, drop, find, Some, None, inl, inr}
use Rattle.std.proofs.Common.{refl, sym, subst, eqb, ◌∙◌, ap, arith, All}
use Rattle.std.proofs.lemmas.Bool.{cond-true, cond-false, cases_Bool, or_cases, eqb-true, false≢true}
use Rattle.std.proofs.lemmas.List.{at_drop_more, at_drop_all, length-map}
use Rattle.std.proofs.lemmas.Option.{none-some}
use Rattle.kmc_base.specs.declared.ids.SiteId.{SiteId}
use Rattle.lattice_core.specs.SiteList.{site_numbers, is_listed}
use Rattle.lattice_core.proofs.Members.{listed_at}
use Rattle.lattice_core.proofs.Searching.{number_at}

-- the first that is left passes
pub find_here : (p : ℕ → Bool) (xs : List ℕ) (i : ℕ) → i < length xs → p (get_or xs i 0) ≡ true → find p (drop i xs) ≡ Some (get_or xs i 0)
find_here p xs i within h = at_drop_more (find p) xs i 0 within ∙ cond-true _ _ _ h

-- or it does not
pub find_later : (p : ℕ → Bool) (xs : List ℕ) (i : ℕ) → i < length xs → p (get_or xs i 0) ≡ false → find p (drop (i + 1) xs) ≡ find p (drop i xs)
find_later p xs i within h = sym (at_drop_more (find p) xs i 0 within ∙ cond-false _ _ _ h)

-- nothing is left
pub find_none : (p : ℕ → Bool) (xs : List ℕ) (i : ℕ) → length xs ≤ i → find p (drop i xs) ≡ None
find_none p xs i past = at_drop_all (find p) xs i past

-- where nothing is found, what is listed does not pass
pub fails-from_none : (p : ℕ → Bool) (xs : List ℕ) (t : ℕ) → find p xs ≡ None → is_listed xs t ≡ true → p t ≡ false
fails-from_none p [] t none listed = absurd (false≢true listed)
fails-from_none p (x ∷ xs) t none listed =
    elim (cases_Bool (p x)) [
      | inl passed ↦ absurd (none-some x (sym none ∙ cond-true _ _ _ passed))
      | inr failed ↦ elim (or_cases (eqb x t) (is_listed xs t) listed) [
        | inl e ↦ subst (λ z. p z ≡ false) (eqb-true x t e) failed
        | inr later ↦ fails-from_none p xs t (sym (cond-false _ _ _ failed) ∙ none) later
      ]
    ]

-- two tests that agree find the same
pub find-agree : (p q : ℕ → Bool) → ((t : ℕ) → p t ≡ q t) → (xs : List ℕ) → find p xs ≡ find q xs
find-agree p q same [] = refl
find-agree p q same (x ∷ xs) = rw (same x, find-agree p q same xs) refl

-- the number of the site at a place
abbrev pub number_of : List SiteId → ℕ → ℕ
number_of list i = (get_or list i (record { 0 = 0 })).0

pub number_of-is : (list : List SiteId) (i : ℕ) → i < length list → (i < length (site_numbers list))
    × (get_or (site_numbers list) i 0 ≡ number_of list i)
number_of-is list i within = (omega (arith, length-map list (λ (s : SiteId). s.0)), number_at list i 0 within)

-- the same steps along a list of sites
pub find_site_here : (p : ℕ → Bool) (list : List SiteId) (i : ℕ) → i < length list → p (number_of list i) ≡ true
    → find p (drop i (site_numbers list)) ≡ Some (number_of list i)
find_site_here p list i within h =
    let is = number_of-is list i within in
    find_here p (site_numbers list) i is.0 (ap p is.1 ∙ h) ∙ ap Some is.1

pub find_site_later : (p : ℕ → Bool) (list : List SiteId) (i : ℕ) → i < length list → p (number_of list i) ≡ false
    → find p (drop (i + 1) (site_numbers list)) ≡ find p (drop i (site_numbers list))
find_site_later p list i within h =
    let is = number_of-is list i within in
    find_later p (site_numbers list) i is.0 (ap p is.1 ∙ h)

pub All-number : (P : ℕ → Type 0) (list : List SiteId) (i : ℕ) → i < length list → All P (site_numbers list) → P (number_of list i)
All-number P list i within all =
    let is = number_of-is list i within in
    subst P is.1 (all i 0 is.0)

-- the number of the site at a place is listed
pub listed_number : (list : List SiteId) (i : ℕ) → i < length list → is_listed (site_numbers list) (number_of list i) ≡ true
listed_number list i within =
    let is = number_of-is list i within in
    subst (λ s. is_listed (site_numbers list) s ≡ true) is.1 (listed_at (site_numbers list) i is.0)
