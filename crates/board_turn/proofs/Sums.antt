-- Sums over lists that change at one place, and facts on each element of such a list.
use Rattle.std.proofs.Common.{◌≡◌, ◌≢◌, ℕ, zero, suc, ◌+◌, ◌<◌, ◌≤◌, List, [], ◌∷◌, ◌++◌, set, sym, refl, ap, subst, ⊎_elim, arith, eq-eqb, ne_eqb}
use mathlib.Core.Logic.{dite}
use mathlib.Core.Option.{some, some-injective, some-ne-none}
use native.Mathlib.Decide.{ℕ_discrete}
use lib.ListN.{get_elem?}
use Rattle.atomic_table.proofs.Lists.{at_set, at_snoc}
use Rattle.board_turn.specs.Sums.{total, below, yes_no, only, positive}

module _ {A : Type 0} where
  module _ (g : A → ℕ) where
    pub total-append : (l m : List A) → total g (l ++ m) ≡ total g l + total g m
    total-append [] m = omega arith
    total-append (x ∷ xs) m = omega (arith, total-append xs m)

    pub total-set : (l : List A) (j : ℕ) (v w : A) → get_elem? l j ≡ some v → total g (set l j w) + g v ≡ total g l + g w
    total-set [] j v w e = absurd (some-ne-none v (sym e))
    total-set (x ∷ xs) zero v w e = omega (arith, ap g (some-injective x v e))
    total-set (x ∷ xs) (suc j) v w e = omega (arith, total-set xs j v w e)

    pub term_le : (l : List A) (j : ℕ) (v : A) → get_elem? l j ≡ some v → g v ≤ total g l
    term_le [] j v e = absurd (some-ne-none v (sym e))
    term_le (x ∷ xs) zero v e = omega (arith, ap g (some-injective x v e))
    term_le (x ∷ xs) (suc j) v e = omega (arith, term_le xs j v e)

    pub terms_le : (l : List A) (j k : ℕ) (v u : A) → k ≢ j → get_elem? l j ≡ some v → get_elem? l k ≡ some u → g v + g u ≤ total g l
    terms_le [] j k v u n e d = absurd (some-ne-none v (sym e))
    terms_le (x ∷ xs) zero zero v u n e d = absurd (n refl)
    terms_le (x ∷ xs) zero (suc k) v u n e d = omega (arith, ap g (some-injective x v e), term_le xs k u d)
    terms_le (x ∷ xs) (suc j) zero v u n e d = omega (arith, ap g (some-injective x u d), term_le xs j v e)
    terms_le (x ∷ xs) (suc j) (suc k) v u n e d = omega (arith, terms_le xs j k v u (λ h. n (ap suc h)) e d)

    -- a sum of no weight
    pub total-none : (l : List A) → ((j : ℕ) (v : A) → get_elem? l j ≡ some v → g v ≡ 0) → total g l ≡ 0
    total-none [] h = refl
    total-none (x ∷ xs) h = omega (arith, h 0 x refl, total-none xs (λ j v e. h (suc j) v e))

  -- the difference of two sums, one element at a time
  pub total_le : (f g : A → ℕ) (l : List A) → ((x : A) → f x ≤ g x) → total f l ≤ total g l
  total_le f g [] h = omega arith
  total_le f g (x ∷ xs) h = omega (arith, h x, total_le f g xs h)

  -- an element that has weight in the greater sum alone
  pub total_less : (f g : A → ℕ) (l : List A) (j : ℕ) (v : A) → ((x : A) → f x ≤ g x) → get_elem? l j ≡ some v → total f l + g v ≤ total g l + f v
  total_less f g [] j v h e = absurd (some-ne-none v (sym e))
  total_less f g (x ∷ xs) zero v h e = omega (arith, ap f (some-injective x v e), ap g (some-injective x v e), total_le f g xs h)
  total_less f g (x ∷ xs) (suc j) v h e = omega (arith, h x, total_less f g xs j v h e)

  -- what holds of each other element, and of the new one
  pub each_set : (P : A → Type 0) (l : List A) (i : ℕ) (b : A)
      → ((j : ℕ) (a : A) → j ≢ i → get_elem? l j ≡ some a → P a) → P b → (j : ℕ) (a : A)
      → get_elem? (set l i b) j ≡ some a → P a
  each_set P l i b others mine j a e =
      ⊎_elim (λ (t : (j ≡ i) × (b ≡ a)). subst P t.1 mine)
      (λ (t : (j ≢ i) × (get_elem? l j ≡ some a)). others j a t.0 t.1) (at_set l i j b a e)

  pub each_snoc : (P : A → Type 0) (l : List A) (b : A) → ((j : ℕ) (a : A) → get_elem? l j ≡ some a → P a) → P b
      → (j : ℕ) (a : A) → get_elem? (l ++ b ∷ []) j ≡ some a → P a
  each_snoc P l b others mine j a e = ⊎_elim (λ t. others j a t) (λ (t : b ≡ a). subst P t mine) (at_snoc l b a j e)

pub only-same : (k : ℕ) → only k k ≡ 1
only-same k = ap yes_no (eq-eqb k k refl)

pub only-other : (k n : ℕ) → n ≢ k → only k n ≡ 0
only-other k n h = ap yes_no (ne_eqb n k h)

below-only : (k n : ℕ) → (below (only k) n ≤ 1) × (n ≤ k → below (only k) n ≡ 0)
below-only k zero = (omega arith, λ _. refl)
below-only k (suc n) =
    let before = below-only k n in
    dite (ℕ_discrete n k)
    (λ e. let none-yet = before.1 (omega arith) in
    let one : only k n ≡ 1 = subst (λ x. only k x ≡ 1) (sym e) (only-same k) in
    (omega arith, λ h. absurd (omega arith)))
    (λ ne. let zero-here = only-other k n ne in (omega (arith, before.0), λ h. omega (arith, before.1 (omega arith))))

pub below-once : (k n : ℕ) → below (only k) n ≤ 1
below-once k n = (below-only k n).0

pub below-positive : (n : ℕ) → 0 < n → below positive n + 1 ≡ n
below-positive zero h = absurd (omega arith)
below-positive (suc zero) h = refl
below-positive (suc (suc n)) h = omega (arith, below-positive (suc n) (omega arith))

pub positive_of : (n : ℕ) → 0 < n → positive n ≡ 1
positive_of zero h = absurd (omega arith)
positive_of (suc n) h = refl
