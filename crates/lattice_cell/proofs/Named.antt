-- What lists of neighbours name once one more is added.
use Rattle.std.proofs.Common.{◌≡◌, ℕ, ◌<◌, Bool, true, ◌&&◌, ◌||◌, eqb, List, [], ◌∷◌, ◌++◌, length, get_or, set, inl, inr, refl, sym, ◌∙◌, ap, subst}
use Rattle.std.proofs.Math.Bool.{or_assoc, or-false}
use Rattle.std.proofs.lemmas.Bool.{cases_eq, cases_Bool, eq-eqb, eqb-true, ne_eqb, and_parts}
use Rattle.std.proofs.lemmas.List.{map-append}
use Rattle.std.proofs.lemmas.List.Folds.{list_any-append}
use Rattle.std.specs.declared.vec.Vec.{Vec}
use Rattle.std.specs.declared.alloc.Global.{Global}
use Rattle.kmc_base.specs.declared.ids.SiteId.{SiteId}
use Rattle.lattice_core.specs.SiteList.{site_numbers, is_listed}
use Rattle.lattice_core.proofs.Numbers.{list_of-numbers, list_of-set_same, list_of-set_other}
use Rattle.lattice_cell.specs.Naming.{names, NamesMore}

-- one more at the end of a list
listed_end : (xs : List SiteId) (t b : ℕ) → is_listed (site_numbers (xs ++ record { 0 = t } ∷ [])) b ≡ (is_listed (site_numbers xs) b || eqb t b)
listed_end xs t b =
    ap (λ l. is_listed l b) (map-append (λ (s : SiteId). s.0) xs (record { 0 = t } ∷ []))
    ∙ list_any-append (λ x. eqb x b) (site_numbers xs) (t ∷ [])
    ∙ ap (λ c. is_listed (site_numbers xs) b || c) (or-false (eqb t b))

-- one more in the list of a site
pub names-add : (lists : List (Vec SiteId Global)) (s t : ℕ) (old new : Vec SiteId Global) → s < length lists
    → old ≡ get_or lists s old → new.items ≡ old.items ++ record { 0 = t } ∷ []
    → NamesMore lists (set lists s new) (λ a b. eqb s a && eqb t b)
names-add lists s t old new within was is = λ a b.
    elim (cases_eq a s) [
      | inl e ↦ subst (λ k. names (set lists s new) k b ≡ (names lists k b || (eqb s k && eqb t b))) (sym e)
          (rw (list_of-set_same lists s new within, list_of-numbers lists s old within was, eq-eqb s s refl)
          (ap (λ l. is_listed (site_numbers l) b) is ∙ listed_end old.items t b))
      | inr n ↦ let apart : s ≡ a → ⊥ = λ h. n (sym h) in
          rw (list_of-set_other lists s a new n, ne_eqb s a apart) (sym (or-false (names lists a b)))
    ]

-- what is added first and what is added next
pub NamesMore-then : (a b c : List (Vec SiteId Global)) (p q r : ℕ → ℕ → Bool) → NamesMore a b p → NamesMore b c q
    → ((s t : ℕ) → (p s t || q s t) ≡ r s t) → NamesMore a c r
NamesMore-then a b c p q r first next both = λ s t.
    next s t ∙ ap (λ x. x || q s t) (first s t) ∙ or_assoc (names a s t) (p s t) (q s t) ∙ ap (λ x. names a s t || x) (both s t)

-- nothing is added where the site is named already
pub NamesMore-had : (lists : List (Vec SiteId Global)) (s t : ℕ) → names lists s t ≡ true → NamesMore lists lists (λ a b. eqb s a && eqb t b)
NamesMore-had lists s t had = λ a b.
    elim (cases_Bool (eqb s a && eqb t b)) [
      | inl here ↦ let parts = and_parts _ _ here in
          let named : names lists a b ≡ true =
          subst (λ k. names lists k b ≡ true) (eqb-true s a parts.0) (subst (λ k. names lists s k ≡ true) (eqb-true t b parts.1) had) in
          rw named refl
      | inr there ↦ rw there (sym (or-false (names lists a b)))
    ]
