-- A list without its repeats passes the tests that the list does.
use Rattle.std.proofs.Common.{◌≡◌, Bool, true, false, ◌||◌, List, [], ◌∷◌, Contains, IsPermutation, refl, ap, sym, ◌∙◌, subst, inl, inr}
use Rattle.std.specs.List.{list_any, dedup, dedup_from}
use Rattle.std.proofs.lemmas.Bool.{cases_Bool}
use Rattle.std.proofs.lemmas.List.Kept.{Contains-from_dedup}
use Rattle.std.proofs.lemmas.List.Sorted.{list_any-IsPermutation, Contains-permutation, IsPermutation-sym}

or-again : (a b : Bool) → (a || (a || b)) ≡ (a || b)
or-again true b = refl
or-again false b = refl

module _ {X : Type 0} (same : X → X → Bool) (equal : (x y : X) → same x y ≡ true → x ≡ y) (p : X → Bool) where
  any-dedup_from : (x : X) (xs : List X) → list_any p (dedup_from same x xs) ≡ (p x || list_any p xs)
  any-dedup_from x [] = refl
  any-dedup_from x (y ∷ ys) =
      elim (cases_Bool (same y x)) [
        | inl t ↦ let again : (p x || (p y || list_any p ys)) ≡ (p x || list_any p ys) =
            ap (λ z. p x || (p z || list_any p ys)) (equal y x t) ∙ or-again (p x) (list_any p ys) in
            rw t (any-dedup_from x ys ∙ sym again)
        | inr f ↦ rw f (ap (λ b. p x || b) (any-dedup_from y ys))
      ]

  any-dedup : (xs : List X) → list_any p (dedup same xs) ≡ list_any p xs
  any-dedup [] = refl
  any-dedup (x ∷ xs) = any-dedup_from x xs

  -- after a sort too
  pub any-from_sort : (before sorted kept : List X) → IsPermutation before sorted → kept ≡ dedup same sorted
      → list_any p kept ≡ list_any p before
  any-from_sort before sorted kept moved is =
      ap (list_any p) is ∙ any-dedup sorted ∙ sym (list_any-IsPermutation p before sorted moved)

-- what is left is of the list
pub Contains-from_sort : {X : Type 0} (same : X → X → Bool) (before sorted kept : List X) (x : X) → IsPermutation before sorted
    → kept ≡ dedup same sorted → Contains kept x → Contains before x
Contains-from_sort same before sorted kept x moved is c =
    Contains-permutation _ _ x (IsPermutation-sym _ _ moved)
    (Contains-from_dedup same sorted x (subst (λ l. Contains l x) is c))
