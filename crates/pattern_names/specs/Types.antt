-- The site types of a pattern, with the types that are named by their numbers.
use Rattle.std.specs.Prelude.{ℕ, [], ◌∷◌, List, map, Option, None, Some, replicate}
use Rattle.deck_shape.specs.Names.{NameWord}
use Rattle.site_rows.specs.TypeWords.{type_of}

-- the site types that type words ask for, one for each of so many sites: any, where there are no words
abbrev pub types_for : List (List ℕ) → ℕ → List NameWord → List (Option ℕ)
types_for type_names sites [] = replicate sites None
types_for type_names sites (word ∷ words) = map (λ w. Some (type_of type_names w.word.bytes)) (word ∷ words)
