-- Sums over lists. "At most one view" and "no other view" are said at once by a sum over all views.
use Rattle.std.specs.Prelude.{ℕ, zero, suc, ◌+◌, List, [], ◌∷◌, Bool, true, false, ◌==◌}

-- the sum of f over a list
abbrev pub total : {A : Type 0} → (A → ℕ) → List A → ℕ
total f [] = 0
total f (x ∷ xs) = f x + total f xs

-- the sum of f over the numbers below n
abbrev pub below : (ℕ → ℕ) → ℕ → ℕ
below f zero = 0
below f (suc n) = below f n + f n

-- 1 for yes, 0 for no
abbrev pub yes_no : Bool → ℕ
yes_no true = 1
yes_no false = 0

-- 1 at k, 0 at every other number
abbrev pub only : ℕ → ℕ → ℕ
only k n = yes_no (n == k)

-- 0 at 0, 1 at every other number
abbrev pub positive : ℕ → ℕ
positive zero = 0
positive (suc n) = 1
