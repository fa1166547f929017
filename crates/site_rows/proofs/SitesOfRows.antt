-- the sites of rows without a fault: as many rows as sites are a row for each site
use Rattle.std.proofs.Common.{◌≡◌, ◌∙◌, sym, ap, subst, ℕ, suc, ◌+◌, ◌<◌, ◌⊎◌, ◌||◌, ◌++◌, All, true, false, cond, List, [], ◌∷◌, Option, None, Some}
use Rattle.std.proofs.Common.{eqb, get_or, inl, inr, length, map, refl, arith}
use Rattle.std.specs.List.{AllByRecursion, IsDistinct, list_any}
use Rattle.std.proofs.lemmas.Bool.{cases_Bool, cond-false, cond-true, eqb-true, ne_eqb, both_ways, eq-eqb, or_cases}
use Rattle.std.proofs.lemmas.List.{length-map}
use Rattle.std.proofs.lemmas.List.Elements.{All-contains, All-map, recursion_from_All}
use Rattle.std.proofs.lemmas.List.Folds.{Any-from_list_any}
use Rattle.std.proofs.lemmas.Map.Steps.{length-le_from_distinct_below}
use Rattle.site_rows.specs.Placing.{IsSite}
use Rattle.site_rows.specs.RowFaults.{fault_below, rows_fault}
use Rattle.site_rows.specs.SiteRows.{SiteRow, row_for}
use Rattle.site_rows.proofs.FaultlessRows.{HasNoFault, first_new, next_row, row_faultless}

abbrev sites_of : List SiteRow → List ℕ
sites_of rows = map (λ row. row.site) rows

-- where no row gives a site, none that is behind others does
row_not : (q : ℕ) (above rows : List SiteRow) (row : SiteRow) → row_for q (above ++ row ∷ rows) ≡ None → eqb row.site q ≡ false
row_not q [] rows row none =
    elim (eqb row.site q) as (λ b. cond b (Some row) (row_for q rows) ≡ None → b ≡ false) [ true ↦ λ e. absurd (cc) | false ↦ λ e. refl ] none
row_not q (r ∷ above) rows row none =
    elim (eqb r.site q) as (λ b. cond b (Some r) (row_for q (above ++ row ∷ rows)) ≡ None → eqb row.site q ≡ false)
    [ true ↦ λ e. absurd (cc) | false ↦ λ e. row_not q above rows row e ] none

-- nor does one of the first
none_above : (q : ℕ) (above rows : List SiteRow) → row_for q (above ++ rows) ≡ None → row_for q above ≡ None
none_above q [] rows none = refl
none_above q (r ∷ above) rows none =
    elim (eqb r.site q) as (λ b. cond b (Some r) (row_for q (above ++ rows)) ≡ None → cond b (Some r) (row_for q above) ≡ None)
    [ true ↦ λ e. absurd (cc) | false ↦ λ e. none_above q above rows e ] none

-- a site that is given above is given by no row below
differs_below : (sites : Option ℕ) (all above rows : List SiteRow) (site : ℕ) → ((q : ℕ) → row_for q above ≡ None → eqb site q ≡ false)
    → fault_below sites all above rows ≡ None → AllByRecursion (λ y. eqb site y ≡ false) (sites_of rows)
differs_below sites all above [] site given none = tt
differs_below sites all above (row ∷ rows) site given none =
    let parts = first_new sites all above rows row none in (
      given row.site parts.0,
      differs_below sites all (above ++ row ∷ []) rows site (λ q e. given q (none_above q above (row ∷ []) e)) parts.1,
    )

-- so no two rows give the same site
all_differ : (sites : Option ℕ) (all above rows : List SiteRow) → fault_below sites all above rows ≡ None → IsDistinct eqb (sites_of rows)
unfolding IsDistinct
all_differ sites all above [] none = tt
all_differ sites all above (row ∷ rows) none =
    let parts = first_new sites all above rows row none in (
      differs_below sites all (above ++ row ∷ []) rows row.site (λ q e. row_not q above [] row e) parts.1,
      all_differ sites all (above ++ row ∷ []) rows parts.1,
    )

-- a site without a row is none of them
differs_from_all : (q : ℕ) (rows : List SiteRow) → row_for q rows ≡ None → AllByRecursion (λ y. eqb q y ≡ false) (sites_of rows)
differs_from_all q [] none = tt
differs_from_all q (row ∷ rows) none =
    let other : eqb row.site q ≡ false = row_not q [] rows row none in (
      ne_eqb q row.site (λ e. both_ways (eqb row.site q) other (eq-eqb row.site q (sym e))),
      differs_from_all q rows (sym (cond-false (eqb row.site q) (Some row) (row_for q rows) other) ∙ none),
    )

none_or_some : (o : Option SiteRow) → (o ≡ None) ⊎ ((row : SiteRow) × (o ≡ Some row))
none_or_some None = inl refl
none_or_some (Some row) = inr (row, refl)

-- the row that gives a site is one of the rows
row_place : (q : ℕ) (rows : List SiteRow) (row : SiteRow) → row_for q rows ≡ Some row
    → (i : ℕ) × (i < length rows) × (get_or rows i row ≡ row) × (row.site ≡ q)
row_place q [] row found = absurd (cc)
row_place q (r ∷ rows) row found =
    elim (cases_Bool (eqb r.site q)) [
      | inl here ↦ let same : Some r ≡ Some row = sym (cond-true (eqb r.site q) (Some r) (row_for q rows) here) ∙ found in
          let e : r ≡ row = cc in
          (0, omega arith, e, ap (λ (x : SiteRow). x.site) (sym e) ∙ eqb-true r.site q here)
      | inr other ↦ let next = row_place q rows row (sym (cond-false (eqb r.site q) (Some r) (row_for q rows) other) ∙ found) in
          (suc next.0, omega (arith, next.1), next.2, next.3)
    ]

module _ (n : ℕ) (rows : List SiteRow) (none : rows_fault (Some n) rows ≡ None) where
  -- each row gives a site from 1 to n
  are_sites : All (IsSite n) (sites_of rows)
  are_sites = All-map (IsSite n) (λ (row : SiteRow). row.site) rows (λ k d within. (next_row n rows k d within none).names.site)

  not_zero : AllByRecursion (λ y. eqb 0 y ≡ false) (sites_of rows)
  not_zero =
      recursion_from_All (λ y. eqb 0 y ≡ false) (sites_of rows)
      (λ k d within. ne_eqb 0 (get_or (sites_of rows) k d) (λ e. let is = are_sites k d within in absurd (omega (arith, e, is.0))))

  -- what is 0, a site or the site of a row is at most n
  not_past : (s : ℕ) → IsSite n s → (q : ℕ) → list_any (eqb q) (0 ∷ s ∷ sites_of rows) ≡ true → q < n + 1
  not_past s is q listed =
      elim (or_cases (eqb q 0) (eqb q s || list_any (eqb q) (sites_of rows)) listed) [
        | inl zero ↦ let e = eqb-true q 0 zero in omega (arith, e)
        | inr rest ↦ elim (or_cases (eqb q s) (list_any (eqb q) (sites_of rows)) rest) [
          | inl here ↦ let e = eqb-true q s here in omega (arith, e, is.1)
          | inr given ↦ let found = Any-from_list_any (eqb q) (sites_of rows) given in
              let low = All-contains (IsSite n) (sites_of rows) found.1 are_sites (found.0, found.2, found.3) in
              let e = eqb-true q found.1 found.4 in
              omega (arith, e, low.1)
        ]
      ]

  -- of as many rows as sites none of the sites is left out: 0, that site and those of the rows would be n + 2 different
  -- numbers up to n
  pub none_left_out : length rows ≡ n → (s : ℕ) → IsSite n s → row_for s rows ≡ None → ⊥
  unfolding IsDistinct
  none_left_out full s is absent =
      let apart : eqb 0 s ≡ false = ne_eqb 0 s (λ e. absurd (omega (arith, e, is.0))) in
      let few = length-le_from_distinct_below (0 ∷ s ∷ sites_of rows) (n + 1)
      ((apart, not_zero), (differs_from_all s rows absent, all_differ (Some n) rows [] rows none)) (not_past s is) in
      omega (arith, few, full, length-map rows (λ (row : SiteRow). row.site))

  -- the row of a site has no fault
  pub row_given : length rows ≡ n → (s : ℕ) → IsSite n s → (row : SiteRow) × (row_for s rows ≡ Some row) × (row.site ≡ s) × HasNoFault (Some n) rows row
  row_given full s is =
      elim (none_or_some (row_for s rows)) [
        | inl absent ↦ absurd (none_left_out full s is absent)
        | inr found ↦ let at = row_place s rows found.0 found.1 in
            (found.0, found.1, at.3, subst (HasNoFault (Some n) rows) at.2 (row_faultless (Some n) rows at.0 found.0 at.1 none))
      ]
