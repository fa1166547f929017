-- The sum of the shares of all cluster instances of a book.
use Rattle.std.specs.Prelude.{ℤ, pos, ◌+ℤ◌, List, [], ◌∷◌, slice_index_or}
use Rattle.std.specs.List.{fold}
use Rattle.cluster_book.specs.declared.found.Found.{Found}
use Rattle.cluster_book.specs.Book.{Book}

-- what an instance adds to the energy: the share of its cluster
abbrev pub share_of : List ℤ → Found → ℤ
share_of shares instance = slice_index_or shares instance.cluster.0 (pos 0)

-- what some instances add
abbrev pub sum_of_shares : List ℤ → List Found → ℤ
sum_of_shares shares found = fold (λ sum instance. sum +ℤ share_of shares instance) (pos 0) found

-- what the instances of some anchors add
abbrev pub sum_over : List ℤ → List (List Found) → ℤ
sum_over shares [] = pos 0
sum_over shares (found ∷ lists) = sum_of_shares shares found +ℤ sum_over shares lists

-- what all instances of a book add
abbrev pub total : Book → ℤ
total book = sum_over book.shares book.lists
