-- the numbers of the first types of names, and one name more
use Rattle.std.proofs.Common.{◌≡◌, ◌∙◌, sym, ap, ℕ, ◌+◌, ◌≤◌, ◌++◌, Bool, Bor, true, false, cond, inl, inr, List, [], ◌∷◌, Option, None}
use Rattle.std.proofs.Common.{Some, is_some}
use Rattle.std.proofs.Common.{length, nat_cmp, nat_eq, refl, arith}
use Rattle.std.specs.BTreeMap.{BTreeMap, is_at}
use Rattle.std.specs.BTreeMap as tree
use Rattle.std.specs.Cmp.Lexicographic.{pointwise, slice_cmp}
use Rattle.std.specs.List.{position_from}
use Rattle.std.specs.declared.cmp.Ordering.{Ordering}
use Rattle.std.proofs.lemmas.Bool.{cases_Bool}
use Rattle.std.proofs.lemmas.Map.Text.{is_eq-slice_cmp}
use Rattle.std.proofs.lemmas.Slice.Eq.{bytes_eq-Decides}
use Rattle.site_rows.specs.TypeIndexes.{AreNumbers}

-- the order of names
abbrev pub name_cmp : Bor (List ℕ) → Bor (List ℕ) → Ordering
name_cmp a b = slice_cmp nat_cmp a.now b.now

-- where a name has the number of a type, or that of none
first_found : {X : Type 0} (p : X → Bool) (i : ℕ) (xs : List X) (x : X) (n : ℕ) → position_from p i xs ≡ Some n
    → position_from p i (xs ++ x ∷ []) ≡ Some n
first_found p i [] x n found = absurd (cc)
first_found p i (y ∷ xs) x n found =
    elim (p y) as (λ b. cond b (Some i) (position_from p (i + 1) xs) ≡ Some n → cond b (Some i) (position_from p (i + 1) (xs ++ x ∷ [])) ≡ Some n)
    [ true ↦ λ e. e | false ↦ λ e. first_found p (i + 1) xs x n e ] found

last_found : {X : Type 0} (p : X → Bool) (i : ℕ) (xs : List X) (x : X) → position_from p i xs ≡ None → p x ≡ true
    → position_from p i (xs ++ x ∷ []) ≡ Some (i + length xs)
last_found p i [] x none is = rw is (ap (λ n. Some n) (omega arith))
last_found p i (y ∷ xs) x none is =
    elim (p y) as (λ b. cond b (Some i) (position_from p (i + 1) xs) ≡ None
    → cond b (Some i) (position_from p (i + 1) (xs ++ x ∷ [])) ≡ Some (i + length (y ∷ xs)))
    [ true ↦ λ e. absurd (cc) | false ↦ λ e. last_found p (i + 1) xs x e is ∙ ap (λ n. Some n) (omega arith) ] none

last_passed : {X : Type 0} (p : X → Bool) (i : ℕ) (xs : List X) (x : X) → p x ≡ false
    → position_from p i (xs ++ x ∷ []) ≡ position_from p i xs
last_passed p i [] x is = rw is refl
last_passed p i (y ∷ xs) x is = ap (cond (p y) (Some i)) (last_passed p (i + 1) xs x is)

-- the number of a type is at most how many there are
pub found_within : {X : Type 0} (p : X → Bool) (i : ℕ) (xs : List X) (n : ℕ) → position_from p i xs ≡ Some n → n + 1 ≤ i + length xs
found_within p i [] n found = absurd (cc)
found_within p i (y ∷ xs) n found =
    elim (p y) as (λ b. cond b (Some i) (position_from p (i + 1) xs) ≡ Some n → n + 1 ≤ i + length (y ∷ xs)) [
      | true ↦ λ e. let same : i ≡ n = cc in omega arith
      | false ↦ λ e. let later : n + 1 ≤ i + 1 + length xs = found_within p (i + 1) xs n e in omega arith
    ] found

some_found : (r : Option ℕ) → is_some r ≡ true → (n : ℕ) × (r ≡ Some n)
some_found None is = absurd (cc)
some_found (Some n) is = (n, refl)

none_found : (r : Option ℕ) → is_some r ≡ false → r ≡ None
none_found None is = refl
none_found (Some n) is = absurd (cc)

module _ (above : List (List ℕ)) (name : Bor (List ℕ)) (old : BTreeMap (Bor (List ℕ)) ℕ) (are : AreNumbers above old) where
  -- the name is new
  pub number_added : (new : BTreeMap (Bor (List ℕ)) ℕ) (number : ℕ) → is_some (tree.get name_cmp old name) ≡ false → number ≡ length above + 1
      → ((q : Bor (List ℕ)) → tree.get name_cmp new q ≡ cond (is_at (name_cmp name) q) (Some number) (tree.get name_cmp old q))
      → AreNumbers (above ++ name.now ∷ []) new
  number_added new number absent is updates q =
      let p : List ℕ → Bool = λ n. pointwise nat_eq n q.now in
      updates q ∙ ap (λ b. cond b (Some number) (tree.get name_cmp old q)) (is_eq-slice_cmp name.now q.now)
      ∙ ap (cond (p name.now) (Some number)) (are q)
      ∙ elim (cases_Bool (p name.now)) [
        | inl same ↦
            let none : position_from p 1 above ≡ None =
            ap (λ w. position_from (λ n. pointwise nat_eq n w) 1 above) (sym ((bytes_eq-Decides name.now q.now).0 same))
            ∙ sym (are name) ∙ none_found _ absent in
            rw same (ap (λ n. Some n) (is ∙ omega arith) ∙ sym (last_found p 1 above name.now none same))
        | inr other ↦ rw other (sym (last_passed p 1 above name.now other))
      ]

  -- a type above has the name
  pub number_kept : is_some (tree.get name_cmp old name) ≡ true → AreNumbers (above ++ name.now ∷ []) old
  number_kept present q =
      let p : List ℕ → Bool = λ n. pointwise nat_eq n q.now in
      are q ∙ elim (cases_Bool (p name.now)) [
        | inl same ↦
            let found = some_found _ present in
            let first : position_from p 1 above ≡ Some found.0 =
            ap (λ w. position_from (λ n. pointwise nat_eq n w) 1 above) (sym ((bytes_eq-Decides name.now q.now).0 same))
            ∙ sym (are name) ∙ found.1 in
            first ∙ sym (first_found p 1 above name.now found.0 first)
        | inr other ↦ sym (last_passed p 1 above name.now other)
      ]
