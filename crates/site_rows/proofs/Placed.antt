-- what a row puts at its site
use Rattle.std.proofs.Common.{◌≡◌, ◌∙◌, sym, ap, ℕ, suc, zero, ◌+◌, ◌-◌, ◌++◌, ◌≤◌, ◌<◌, ◌≢◌, cond, List, [], ◌∷◌, None, Some, get_or}
use Rattle.std.proofs.Common.{length, map, replicate, set, take, inl, inr, refl, arith, add-one}
use Rattle.std.proofs.Math.Seq.{take-suc}
use Rattle.std.specs.List.{range_with_len}
use Rattle.std.specs.Option.{option_map_or}
use Rattle.std.specs.declared.alloc.Global.{Global}
use Rattle.std.specs.declared.vec.Vec.{Vec}
use Rattle.std.proofs.lemmas.Bool.{cases_eq, eq-eqb, ne_eqb}
use Rattle.std.proofs.lemmas.List.{append_assoc, get_or-set_other, get_or-set_same, length-map, length-replicate, length-set, map-append}
use Rattle.std.proofs.lemmas.List.{map-set, same_lists}
use Rattle.std.proofs.lemmas.List.FromFn.{get_or-map-range_with_len, length-map-range_with_len}
use Rattle.kmc_base.specs.declared.ids.SiteId.{SiteId}
use Rattle.lattice_core.specs.SiteList.{number_lists, site_numbers}
use Rattle.site_rows.specs.Listed.{neighbours_at, type_at}
use Rattle.site_rows.specs.Placing.{AreNeighbours, AreTypes}
use Rattle.site_rows.specs.SiteRows.{SiteRow, row_for}
use Rattle.site_rows.specs.TypeWords.{type_of}
use Rattle.site_rows.proofs.RowLookups.{row_for-later, row_for-other}

-- one value of a list is replaced
placed : {X : Type 0} (f g : ℕ → X) (n at : ℕ) (x : X) (old : List X) → at < n → old ≡ map f (range_with_len 0 n)
    → g at ≡ x → ((k : ℕ) → k ≢ at → g k ≡ f k)
    → set old at x ≡ map g (range_with_len 0 n)
placed f g n at x old within is here others =
    let long : length old ≡ n = ap length is ∙ length-map-range_with_len f 0 n in
    same_lists (set old at x) (map g (range_with_len 0 n)) (omega (arith, length-set old at x, length-map-range_with_len g 0 n))
    (λ k d low.
    let below : k < n = omega (arith, length-set old at x) in
    let there : get_or (map g (range_with_len 0 n)) k d ≡ g k = get_or-map-range_with_len g 0 n k k d below (omega arith) in
    elim (cases_eq k at) [
      | inl e ↦ ap (λ j. get_or (set old at x) j d) e ∙ get_or-set_same old at x d (omega arith) ∙ sym here ∙ ap g (sym e) ∙ sym there
      | inr ne ↦ get_or-set_other old at k x d ne ∙ ap (λ l. get_or l k d) is
          ∙ get_or-map-range_with_len f 0 n k k d below (omega arith) ∙ sym (others k ne) ∙ sym there
    ])

found_here : (rows : List SiteRow) (row : SiteRow) → row_for row.site rows ≡ None → row_for row.site (rows ++ row ∷ []) ≡ Some row
found_here rows row none = row_for-later row.site rows (row ∷ []) none ∙ ap (λ b. cond b (Some row) None) (eq-eqb row.site row.site refl)

other_row : (rows : List SiteRow) (row : SiteRow) (k : ℕ) → 1 ≤ row.site → k ≢ row.site - 1
    → row_for (k + 1) (rows ++ row ∷ []) ≡ row_for (k + 1) rows
other_row rows row k some ne = row_for-other (k + 1) rows row (ne_eqb row.site (k + 1) (λ e. ne (omega arith)))

pub types_placed : (names : List (List ℕ)) (rows : List SiteRow) (row : SiteRow) (old new : List ℕ)
    → row_for row.site rows ≡ None → 1 ≤ row.site → row.site ≤ length old
    → new ≡ set old (row.site - 1) (type_of names row.type_word.bytes) → AreTypes names rows old → AreTypes names (rows ++ row ∷ []) new
types_placed names rows row old new none some low is are =
    let here : row.site - 1 + 1 ≡ row.site = omega arith in
    let long : length new ≡ length old = ap length is ∙ length-set old (row.site - 1) (type_of names row.type_word.bytes) in
    is
    ∙ placed (type_at names rows) (type_at names (rows ++ row ∷ [])) (length old) (row.site - 1) (type_of names row.type_word.bytes) old (omega
    arith) are
    (ap (λ s. option_map_or (λ r. type_of names r.type_word.bytes) (row_for s (rows ++ row ∷ [])) 0) here
    ∙ ap (λ found. option_map_or (λ r. type_of names r.type_word.bytes) found 0) (found_here rows row none))
    (λ k ne. ap (λ found. option_map_or (λ r. type_of names r.type_word.bytes) found 0) (other_row rows row k some ne))
    ∙ ap (λ n. map (type_at names (rows ++ row ∷ [])) (range_with_len 0 n)) (sym long)

pub neighbours_placed : (rows : List SiteRow) (row : SiteRow) (old new : List (Vec SiteId Global))
    → row_for row.site rows ≡ None → 1 ≤ row.site → row.site ≤ length old
    → number_lists new ≡ set (number_lists old) (row.site - 1) (map (λ n. n - 1) row.neighbours)
    → AreNeighbours rows old → AreNeighbours (rows ++ row ∷ []) new
neighbours_placed rows row old new none some low is are =
    let less : ℕ → ℕ = λ n. n - 1 in
    let here : row.site - 1 + 1 ≡ row.site = omega arith in
    let lists = length-map old (λ (v : Vec SiteId Global). site_numbers v.items) in
    let long : length new ≡ length old = sym (length-map new (λ (v : Vec SiteId Global). site_numbers v.items))
    ∙ ap length is ∙ length-set (number_lists old) (row.site - 1) (map less row.neighbours) ∙ lists in
    is
    ∙ placed (neighbours_at rows) (neighbours_at (rows ++ row ∷ [])) (length old) (row.site - 1)
    (map less row.neighbours) (number_lists old) (omega arith) are
    (ap (λ s. option_map_or (λ r. map less r.neighbours) (row_for s (rows ++ row ∷ [])) []) here
    ∙ ap (λ found. option_map_or (λ r. map less r.neighbours) found []) (found_here rows row none))
    (λ k ne. ap (λ found. option_map_or (λ r. map less r.neighbours) found []) (other_row rows row k some ne))
    ∙ ap (λ n. map (neighbours_at (rows ++ row ∷ [])) (range_with_len 0 n)) (sym long)

-- one list of a row is put among those of all sites
pub list_put : (old : List (Vec SiteId Global)) (at : ℕ) (list : Vec SiteId Global) (numbers : List ℕ) → site_numbers list.items ≡ numbers
    → number_lists (set old at list) ≡ set (number_lists old) at numbers
list_put old at list numbers are = map-set (λ (v : Vec SiteId Global). site_numbers v.items) old at list ∙ ap (λ ns. set (number_lists old) at ns) are

-- the same value for each
pub all_same : {X : Type 0} (x : X) (a n : ℕ) → replicate n x ≡ map (λ s. x) (range_with_len a n)
all_same x a zero = refl
all_same x a (suc n) = ap (λ xs. x ∷ xs) (all_same x (a + 1) n)

-- one empty list more
pub lists_pushed : (old new : List (Vec SiteId Global)) (list : Vec SiteId Global) (n k : ℕ) → new ≡ old ++ list ∷ [] → list.items ≡ [] → k < n
    → number_lists old ++ replicate (n - k) [] ≡ replicate n [] → number_lists new ++ replicate (n - (k + 1)) [] ≡ replicate n []
lists_pushed old new list n k is none low before =
    let rest : List (List ℕ) = replicate (n - (k + 1)) [] in
    let numbers : Vec SiteId Global → List ℕ = λ v. site_numbers v.items in
    let next : n - k ≡ suc (n - (k + 1)) = omega arith in
    ap (λ l. number_lists l ++ rest) is
    ∙ ap (λ l. l ++ rest) (map-append numbers old (list ∷ []))
    ∙ append_assoc (number_lists old) (numbers list ∷ []) rest
    ∙ ap (λ items. number_lists old ++ site_numbers items ∷ rest) none
    ∙ ap (λ m. number_lists old ++ replicate m []) (sym next)
    ∙ before

-- the values of some members, and of the next
pub taken_more : {X Y : Type 0} (f : X → Y) (xs : List X) (i : ℕ) (x : X) → i < length xs → x ≡ get_or xs i x
    → map f (take (i + 1) xs) ≡ map f (take i xs) ++ f x ∷ []
taken_more f xs i x within is =
    ap (λ j. map f (take j xs)) (add-one i)
    ∙ ap (map f) (take-suc xs i x within)
    ∙ ap (λ y. map f (take i xs ++ y ∷ [])) (sym is)
    ∙ map-append f (take i xs) (x ∷ [])

-- no row is placed yet
pub first_types : (names : List (List ℕ)) (types : List ℕ) (n : ℕ) → types ≡ replicate n 0 → AreTypes names [] types
first_types names types n are =
    are ∙ all_same 0 0 n ∙ ap (λ m. map (type_at names []) (range_with_len 0 m)) (sym (ap length are ∙ length-replicate n 0))

pub list_total : (lists : List (Vec SiteId Global)) (n : ℕ) → number_lists lists ≡ replicate n [] → length lists ≡ n
list_total lists n are =
    let none : List ℕ = [] in
    sym (length-map lists (λ (v : Vec SiteId Global). site_numbers v.items)) ∙ ap length are ∙ length-replicate n none

pub first_lists : (lists : List (Vec SiteId Global)) (n : ℕ) → number_lists lists ≡ replicate n [] → AreNeighbours [] lists
first_lists lists n are =
    are ∙ all_same [] 0 n ∙ ap (λ m. map (neighbours_at []) (range_with_len 0 m)) (sym (list_total lists n are))
