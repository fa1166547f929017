-- The numbers of types by their names. Not part of what is promised: no public contract cites this.
use Rattle.std.specs.Prelude.{ℕ, ◌==◌, ◌≡◌, List}
use Rattle.std.specs.Borrow.{Bor}
use Rattle.std.specs.BTreeMap.{BTreeMap}
use Rattle.std.specs.BTreeMap as tree
use Rattle.std.specs.Cmp.Lexicographic.{pointwise, slice_cmp}
use Rattle.std.specs.List.{position_from}
use Rattle.std.specs.Ordering.{nat_cmp}

-- a word has the number of the first type whose name it is, from 1
abbrev pub AreNumbers : List (List ℕ) → BTreeMap (Bor (List ℕ)) ℕ → Type 0
AreNumbers names numbers =
    (word : Bor (List ℕ)) → tree.get (λ a b. slice_cmp nat_cmp a.now b.now) numbers word
    ≡ position_from (λ name. pointwise (λ x y. x == y) name word.now) 1 names
