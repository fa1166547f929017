-- rows of sites that have no fault
use Rattle.std.proofs.Common.{◌≡◌, ◌∙◌, ap, ℕ, suc, zero, ◌++◌, ◌<◌, false, All, List, [], ◌∷◌, Option, None, Some, get_or, is_some}
use Rattle.std.proofs.Common.{length, nat_lt, take, inl, inr, arith, sym, append_assoc}
use Rattle.std.specs.List.{list_any}
use Rattle.std.proofs.lemmas.Bool.{both_ways, cases_Bool, or_parts}
use Rattle.std.proofs.lemmas.Bool.Decides.{nat_tests}
use Rattle.std.proofs.lemmas.List.{append-nil}
use Rattle.std.proofs.lemmas.List.Folds.{list_any_at}
use Rattle.deck_values.specs.Lists.{fault_if}
use Rattle.deck_words.specs.declared.kind.TheConstants.{BAD_SITE, ONE_SIDED, OUT_OF_RANGE, REPEATED_SITE, SELF_NEIGHBOUR}
use Rattle.deck_words.specs.declared.kind.TheConstants.{TOO_MANY_NEIGHBOURS}
use Rattle.lattice_core.specs.SiteList.{is_listed}
use Rattle.lattice_core.specs.declared.graph.TheConstants.{MAX_NEIGHBOURS}
use Rattle.site_rows.specs.Placing.{IsSite, NamesSites}
use Rattle.site_rows.specs.RowFaults.{each_once, fault_below, has_bad_site, is_one_sided, row_fault}
use Rattle.site_rows.specs.SiteNumbers.{is_no_site}
use Rattle.site_rows.specs.SiteRows.{SiteRow, row_for}
use Rattle.deck_values.proofs.EarliestFaults.{none_earliest, none_if}
use Rattle.site_rows.proofs.RowLookups.{none-from_test}

-- the row at a place has no fault
fault_at : (sites : Option ℕ) (all rows above : List SiteRow) (i : ℕ) (d : SiteRow) → i < length rows → fault_below sites all above rows ≡ None
    → row_fault sites (above ++ take i rows) all (get_or rows i d) ≡ None
fault_at sites all [] above i d within none = absurd (omega arith)
fault_at sites all (row ∷ rows) above zero d within none =
    ap (λ rs. row_fault sites rs all row) (append-nil above)
    ∙ (none_earliest (row_fault sites above all row) (fault_below sites all (above ++ row ∷ []) rows) none).0
fault_at sites all (row ∷ rows) above (suc i) d within none =
    ap (λ rs. row_fault sites rs all (get_or rows i d)) (sym (append_assoc above (row ∷ []) (take i rows)))
    ∙ fault_at sites all rows (above ++ row ∷ []) i d (omega arith)
    (none_earliest (row_fault sites above all row) (fault_below sites all (above ++ row ∷ []) rows) none).1

-- a row that has no fault among all rows: it names only sites, not itself, few others, and each of them names it too
pub record HasNoFault (sites : Option ℕ) (all : List SiteRow) (row : SiteRow) : Type 0 where
  pub good : has_bad_site sites row ≡ false
  pub not_own : is_listed row.neighbours row.site ≡ false
  pub few : nat_lt MAX_NEIGHBOURS (length (each_once row.neighbours)) ≡ false
  pub two_sided : list_any (is_one_sided sites all row.site) row.neighbours ≡ false

-- its site has no row above either
fault_parts : (sites : Option ℕ) (above all : List SiteRow) (row : SiteRow) → row_fault sites above all row ≡ None
    → (row_for row.site above ≡ None) × HasNoFault sites all row
fault_parts sites above all row none =
    let own = fault_if (is_listed row.neighbours row.site) row.line SELF_NEIGHBOUR in
    let many = fault_if (nat_lt MAX_NEIGHBOURS (length (each_once row.neighbours))) row.line TOO_MANY_NEIGHBOURS in
    let sided = fault_if (list_any (is_one_sided sites all row.site) row.neighbours) row.line ONE_SIDED in
    let bad = fault_if (has_bad_site sites row) row.line BAD_SITE in
    let repeated = fault_if (is_some (row_for row.site above)) row.line REPEATED_SITE in
    let h1 = none_if row.is_out_of_range row.line OUT_OF_RANGE (repeated ∷ bad ∷ own ∷ many ∷ sided ∷ []) none in
    let h2 = none_if (is_some (row_for row.site above)) row.line REPEATED_SITE (bad ∷ own ∷ many ∷ sided ∷ []) h1.1 in
    let h3 = none_if (has_bad_site sites row) row.line BAD_SITE (own ∷ many ∷ sided ∷ []) h2.1 in
    let h4 = none_if (is_listed row.neighbours row.site) row.line SELF_NEIGHBOUR (many ∷ sided ∷ []) h3.1 in
    let h5 = none_if (nat_lt MAX_NEIGHBOURS (length (each_once row.neighbours))) row.line TOO_MANY_NEIGHBOURS (sided ∷ []) h4.1 in
    let h6 = none_if (list_any (is_one_sided sites all row.site) row.neighbours) row.line ONE_SIDED [] h5.1 in
    (none-from_test (row_for row.site above) h2.0, record { good = h3.0; not_own = h4.0; few = h5.0; two_sided = h6.0 })

-- each row of rows without a fault has none
pub row_faultless : (sites : Option ℕ) (rows : List SiteRow) (i : ℕ) (d : SiteRow) → i < length rows → fault_below sites rows [] rows ≡ None
    → HasNoFault sites rows (get_or rows i d)
row_faultless sites rows i d within none =
    (fault_parts sites (take i rows) rows (get_or rows i d) (fault_at sites rows rows [] i d within none)).1

-- the first of them has a site without a row above, and the others have no fault
pub first_new : (sites : Option ℕ) (all above rows : List SiteRow) (row : SiteRow) → fault_below sites all above (row ∷ rows) ≡ None
    → (row_for row.site above ≡ None) × (fault_below sites all (above ++ row ∷ []) rows ≡ None)
first_new sites all above rows row none =
    let parts = none_earliest (row_fault sites above all row) (fault_below sites all (above ++ row ∷ []) rows) none in
    ((fault_parts sites above all row parts.0).0, parts.1)

is_site : (n x : ℕ) → is_no_site (Some n) x ≡ false → IsSite n x
is_site n x none = grind (arith, nat_tests)

are_sites : (n : ℕ) (xs : List ℕ) → list_any (is_no_site (Some n)) xs ≡ false → All (IsSite n) xs
are_sites n xs none k d within =
    elim (cases_Bool (is_no_site (Some n) (get_or xs k d)))
    [ inl t ↦ absurd (both_ways _ none (list_any_at (is_no_site (Some n)) xs k d within t)) | inr f ↦ is_site n (get_or xs k d) f ]

-- a row among rows without a fault
pub record IsNext (n : ℕ) (above : List SiteRow) (row : SiteRow) : Type 0 where
  pub new : row_for row.site above ≡ None
  pub names : NamesSites n row

pub next_row : (n : ℕ) (rows : List SiteRow) (i : ℕ) (d : SiteRow) → i < length rows → fault_below (Some n) rows [] rows ≡ None
    → IsNext n (take i rows) (get_or rows i d)
next_row n rows i d within none =
    let row = get_or rows i d in
    let parts = fault_parts (Some n) (take i rows) rows row (fault_at (Some n) rows rows [] i d within none) in
    let good = or_parts (is_no_site (Some n) row.site) (list_any (is_no_site (Some n)) row.neighbours) parts.1.good in
    record { new = parts.0; names = record { site = is_site n row.site good.0; neighbours = are_sites n row.neighbours good.1 } }
