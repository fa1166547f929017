-- The first fault, by cases; lists that name the same have the same; and lists without one make a lattice.
use Rattle.std.proofs.Common.{◌≡◌, ℕ, ◌+◌, ◌<◌, ◌≤◌, true, false, cond, List, [], ◌∷◌, length, get_or, drop, is_some, Option, Some, None}
use Rattle.std.proofs.Common.{inl, inr, refl, sym, subst, eqb, ◌∙◌, ap, arith}
use Rattle.std.specs.List.{range_with_len}
use Rattle.std.specs.Option.{option_map}
use Rattle.std.proofs.lemmas.Bool.{cases_Bool, cond-true, cond-false, or_cases, eqb-true, false≢true, both_ways}
use Rattle.std.proofs.lemmas.List.{at_drop_more, at_drop_all}
use Rattle.std.proofs.lemmas.List.FromFn.{length-range_with_len, get_or-range_with_len}
use Rattle.lattice_core.specs.declared.fault.GraphFault.{GraphFault}
use Rattle.lattice_core.specs.declared.fault.GraphFault.TheVariants.{BadSite, SelfNeighbour, TooMany, OneSided}
use Rattle.lattice_core.specs.Fault.{has_bad_site, has_itself, has_too_many, one_sided, site_fault, fault_among}
use Rattle.lattice_core.specs.SiteList.{is_listed}

module _ (lists : List (List ℕ)) (s : ℕ) where
  pub fault-bad_site : has_bad_site lists s ≡ true → site_fault lists s ≡ Some (BadSite s)
  unfolding site_fault
  fault-bad_site bad = cond-true _ _ _ bad

  pub fault-itself : has_bad_site lists s ≡ false → has_itself lists s ≡ true → site_fault lists s ≡ Some (SelfNeighbour s)
  unfolding site_fault
  fault-itself bad own = cond-false _ _ _ bad ∙ cond-true _ _ _ own

  pub fault-too_many : has_bad_site lists s ≡ false → has_itself lists s ≡ false → has_too_many lists s ≡ true → site_fault lists s ≡ Some (TooMany s)
  unfolding site_fault
  fault-too_many bad own many = cond-false _ _ _ bad ∙ cond-false _ _ _ own ∙ cond-true _ _ _ many

  pub fault-one_sided : has_bad_site lists s ≡ false → has_itself lists s ≡ false → has_too_many lists s ≡ false
      → site_fault lists s ≡ option_map (OneSided s) (one_sided lists s)
  unfolding site_fault
  fault-one_sided bad own many = cond-false _ _ _ bad ∙ cond-false _ _ _ own ∙ cond-false _ _ _ many

none_from_is_some : (o : Option GraphFault) → is_some o ≡ false → o ≡ None
none_from_is_some None h = refl
none_from_is_some (Some x) h = absurd (false≢true (sym h))

-- the faults from a site on are its own, or those after it
fault_step : (lists : List (List ℕ)) (i : ℕ) → i < length lists
    → fault_among lists (drop i (range_with_len 0 (length lists))) ≡ cond (is_some (site_fault lists i))
    (site_fault lists i) (fault_among lists (drop (i + 1) (range_with_len 0 (length lists))))
fault_step lists i within =
    let r = range_with_len 0 (length lists) in
    let e : get_or r i 0 ≡ i = omega (arith, get_or-range_with_len 0 (length lists) i 0 within) in
    let long : i < length r = omega (arith, length-range_with_len 0 (length lists)) in
    subst (λ x. fault_among lists (drop i r) ≡ cond (is_some (site_fault lists x)) (site_fault lists x)
    (fault_among lists (drop (i + 1) r))) e (at_drop_more (fault_among lists) r i 0 long)

-- the site that is next has the first fault
pub fault_here : (lists : List (List ℕ)) (i : ℕ) → i < length lists → is_some (site_fault lists i) ≡ true
    → fault_among lists (drop i (range_with_len 0 (length lists))) ≡ site_fault lists i
fault_here lists i within h = fault_step lists i within ∙ cond-true _ _ _ h

-- or has none
pub fault_later : (lists : List (List ℕ)) (i : ℕ) → i < length lists → is_some (site_fault lists i) ≡ false
    → fault_among lists (drop (i + 1) (range_with_len 0 (length lists)))
    ≡ fault_among lists (drop i (range_with_len 0 (length lists)))
fault_later lists i within h = sym (fault_step lists i within ∙ cond-false _ _ _ h)

-- where no site is left there is no fault
pub fault_none : (lists : List (List ℕ)) (i : ℕ) → length lists ≤ i → fault_among lists (drop i (range_with_len 0 (length lists))) ≡ None
fault_none lists i past = at_drop_all (fault_among lists) (range_with_len 0 (length lists)) i (omega (arith, length-range_with_len 0 (length lists)))

-- without a first fault no site has one
pub site_fault-none : (lists : List (List ℕ)) (sites : List ℕ) (s : ℕ) → fault_among lists sites ≡ None
    → is_listed sites s ≡ true → site_fault lists s ≡ None
site_fault-none lists [] s none listed = absurd (false≢true listed)
site_fault-none lists (x ∷ xs) s none listed =
    elim (cases_Bool (is_some (site_fault lists x))) [
      | inl passed ↦ absurd (both_ways (is_some (site_fault lists x)) (ap is_some (sym (cond-true _ _ _ passed) ∙ none)) passed)
      | inr failed ↦ elim (or_cases (eqb x s) (is_listed xs s) listed) [
        | inl e ↦ subst (λ z. site_fault lists z ≡ None) (eqb-true x s e) (none_from_is_some _ failed)
        | inr later ↦ site_fault-none lists xs s (sym (cond-false _ _ _ failed) ∙ none) later
      ]
    ]
