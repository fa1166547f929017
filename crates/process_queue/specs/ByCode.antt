-- Items in rising order of their codes.
use Rattle.std.specs.Prelude.{ℕ, List, [], ◌∷◌, if◌then◌else◌, nat_lt}

module _ {A : Type 0} (code_of : A → ℕ) where
  -- some items with one more, placed before the first that has a greater code
  abbrev pub inserted : A → List A → List A
  inserted item [] = item ∷ []
  inserted item (next ∷ rest) = if nat_lt (code_of item) (code_of next) then item ∷ next ∷ rest else next ∷ inserted item rest

  -- items in rising order of their codes
  unfoldable pub by_code : List A → List A
  by_code [] = []
  by_code (item ∷ items) = inserted item (by_code items)
