-- the row of a site among some rows, and one more
use Rattle.std.proofs.Common.{◌≡◌, ◌∙◌, sym, ap, subst, ℕ, ◌++◌, Bool, true, false, cond, not, List, [], ◌∷◌, Option, None, Some, is_some}
use Rattle.std.proofs.Common.{refl, arith, nat_cmp, eqb, inl, inr}
use Rattle.std.specs.BTreeMap.{BTreeMap, is_at}
use Rattle.std.specs.BTreeMap as tree
use Rattle.std.specs.BTreeSet.{BTreeSet}
use Rattle.std.specs.BTreeSet as sorted
use Rattle.std.specs.Ordering.{is_eq}
use Rattle.std.proofs.lemmas.Bool.{cases_Bool, eqb-true}
use Rattle.std.proofs.lemmas.Bool.Decides.{nat_tests}
use Rattle.site_rows.specs.RowLookup.{HasSitesOf, IsIndexOf, Keeps, KeepsFound}
use Rattle.site_rows.specs.SiteRows.{SiteRow, row_for}
use Rattle.site_rows.specs.declared.index.RowNeighbours.{RowNeighbours}

pub same_key : (a b : ℕ) → is_eq (nat_cmp a b) ≡ eqb a b
same_key a b = grind (arith, nat_tests)

-- a row that is found stays found
pub row_for-found : (q : ℕ) (rows more : List SiteRow) (row : SiteRow) → row_for q rows ≡ Some row → row_for q (rows ++ more) ≡ Some row
row_for-found q [] more row found = absurd (cc)
row_for-found q (r ∷ rows) more row found =
    elim (eqb r.site q) as (λ b. cond b (Some r) (row_for q rows) ≡ Some row → cond b (Some r) (row_for q (rows ++ more)) ≡ Some row)
    [ true ↦ λ h. h | false ↦ λ h. row_for-found q rows more row h ] found

-- where none is found the rows behind decide
pub row_for-later : (q : ℕ) (rows more : List SiteRow) → row_for q rows ≡ None → row_for q (rows ++ more) ≡ row_for q more
row_for-later q [] more none = refl
row_for-later q (r ∷ rows) more none =
    elim (eqb r.site q) as (λ b. cond b (Some r) (row_for q rows) ≡ None → cond b (Some r) (row_for q (rows ++ more)) ≡ row_for q more)
    [ true ↦ λ h. absurd (cc) | false ↦ λ h. row_for-later q rows more h ] none

-- the row of another site
pub row_for-other : (q : ℕ) (rows : List SiteRow) (row : SiteRow) → eqb row.site q ≡ false → row_for q (rows ++ row ∷ []) ≡ row_for q rows
row_for-other q [] row other = rw other refl
row_for-other q (r ∷ rows) row other = ap (λ found. cond (eqb r.site q) (Some r) found) (row_for-other q rows row other)

none_found : (sites : Option ℕ) (kept : Option RowNeighbours) (row : Option SiteRow) → KeepsFound sites kept row → kept ≡ None → row ≡ None
none_found sites None None keeps is = refl
none_found sites None (Some row) keeps is = absurd keeps
none_found sites (Some kept) row keeps is = absurd (cc)

some_found : (sites : Option ℕ) (kept : Option RowNeighbours) (row : Option SiteRow) → KeepsFound sites kept row
    → is_some kept ≡ true → (r : SiteRow) × (row ≡ Some r)
some_found sites None row keeps is = absurd (cc)
some_found sites (Some kept) None keeps is = absurd keeps
some_found sites (Some kept) (Some row) keeps is = (row, refl)

-- the first row of its site is kept
pub index_pushed : (sites : Option ℕ) (rows : List SiteRow) (row : SiteRow) (kept : RowNeighbours) (old new : BTreeMap ℕ RowNeighbours)
    → tree.get nat_cmp old row.site ≡ None
    → ((q : ℕ) → tree.get nat_cmp new q ≡ cond (is_at (nat_cmp row.site) q) (Some kept) (tree.get nat_cmp old q))
    → Keeps sites kept row → IsIndexOf sites rows old → IsIndexOf sites (rows ++ row ∷ []) new
index_pushed sites rows row kept old new none updates keeps index q =
    let at : tree.get nat_cmp new q ≡ cond (eqb row.site q) (Some kept) (tree.get nat_cmp old q) =
    updates q ∙ ap (λ b. cond b (Some kept) (tree.get nat_cmp old q)) (same_key row.site q) in
    elim (cases_Bool (eqb row.site q)) [
      | inl t ↦
          let same : row.site ≡ q = eqb-true row.site q t in
          let found : tree.get nat_cmp new q ≡ Some kept = rw t at at in
          let here : row_for q (rows ++ row ∷ []) ≡ Some row =
          row_for-later q rows (row ∷ [])
          (subst (λ s. row_for s rows ≡ None) same
          (none_found sites (tree.get nat_cmp old row.site) (row_for row.site rows) (index row.site) none))
          ∙ rw t refl in
          rw (found, here) keeps
      | inr f ↦
          let found : tree.get nat_cmp new q ≡ tree.get nat_cmp old q = rw f at at in
          rw (found, row_for-other q rows row f) (index q)
    ]

-- and no later one
pub index_passed : (sites : Option ℕ) (rows : List SiteRow) (row : SiteRow) (old : BTreeMap ℕ RowNeighbours)
    → is_some (tree.get nat_cmp old row.site) ≡ true → IsIndexOf sites rows old → IsIndexOf sites (rows ++ row ∷ []) old
index_passed sites rows row old some index q =
    elim (cases_Bool (eqb row.site q)) [
      | inl t ↦
          let same : row.site ≡ q = eqb-true row.site q t in
          let first = some_found sites (tree.get nat_cmp old row.site) (row_for row.site rows) (index row.site) some in
          let at : row_for q rows ≡ Some first.0 = subst (λ s. row_for s rows ≡ Some first.0) same first.1 in
          let stays : row_for q (rows ++ row ∷ []) ≡ row_for q rows = row_for-found q rows (row ∷ []) first.0 at ∙ sym at in
          rw stays (index q)
      | inr f ↦ rw (row_for-other q rows row f) (index q)
    ]

pub none-from_test : {X : Type 0} (r : Option X) → is_some r ≡ false → r ≡ None
none-from_test None none = refl
none-from_test (Some x) none = absurd (cc)

is_some-pushed : (q : ℕ) (rows : List SiteRow) (row : SiteRow)
    → is_some (row_for q (rows ++ row ∷ [])) ≡ cond (eqb row.site q) true (is_some (row_for q rows))
is_some-pushed q [] row = elim (eqb row.site q) as (λ b. is_some (cond b (Some row) None) ≡ cond b true false) [ true ↦ refl | false ↦ refl ]
is_some-pushed q (r ∷ rows) row =
    elim (eqb r.site q) as (λ b. is_some (cond b (Some r) (row_for q (rows ++ row ∷ [])))
    ≡ cond (eqb row.site q) true (is_some (cond b (Some r) (row_for q rows))))
    [ true ↦ elim (eqb row.site q) as (λ b. true ≡ cond b true true) [ true ↦ refl | false ↦ refl ] | false ↦ is_some-pushed q rows row ]

not-not : (b : Bool) → not (not b) ≡ b
not-not true = refl
not-not false = refl

-- the sites that have a row, and one more
pub sites_pushed : (rows : List SiteRow) (row : SiteRow) (old new : BTreeSet ℕ)
    → ((q : ℕ) → sorted.contains nat_cmp new q ≡ cond (is_at (nat_cmp row.site) q) true (sorted.contains nat_cmp old q))
    → HasSitesOf rows old → HasSitesOf (rows ++ row ∷ []) new
sites_pushed rows row old new updates has q =
    updates q
    ∙ ap (λ b. cond b true (sorted.contains nat_cmp old q)) (same_key row.site q)
    ∙ ap (λ b. cond (eqb row.site q) true b) (has q)
    ∙ sym (is_some-pushed q rows row)

pub first-from_added : (rows : List SiteRow) (site : ℕ) (added : Bool) (old : BTreeSet ℕ)
    → added ≡ not (sorted.contains nat_cmp old site) → HasSitesOf rows old
    → not added ≡ is_some (row_for site rows)
first-from_added rows site added old is has = ap not is ∙ not-not (sorted.contains nat_cmp old site) ∙ has site
