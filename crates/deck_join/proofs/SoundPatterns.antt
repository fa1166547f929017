-- The patterns of clusters and of the sides of steps.
use Rattle.std.proofs.Common.{◌≡◌, ◌∙◌, ◌⊎◌, ℕ, List, [], ◌∷◌, None, length, map, sym, subst, inl, inr}
use Rattle.std.proofs.lemmas.List.{length-map, length-replicate}
use Rattle.deck_join.specs.SoundValues.{IsPatternFor}
use Rattle.deck_shape.specs.Names.{NameWord}
use Rattle.pattern_names.specs.Species.{species_in}
use Rattle.pattern_names.specs.Types.{types_for}
use Rattle.pattern_rows.specs.Patterns.{MakePattern, wanted_of}
use Rattle.pattern_rows.specs.States.{StateWords}
use Rattle.pattern_types.specs.Parts.{parts}
use Rattle.pattern_types.specs.Soundness.{IsSound as IsPattern}
use Rattle.pattern_types.specs.declared.wanted.Wanted.{Wanted}
use Rattle.species_book.specs.Book.{Book}

-- what the rows of a pattern want makes a pattern, with the numbers that their species have in a book
pub pattern_of_rows : (book : Book) (sites : ℕ) (edges : List (ℕ × ℕ)) (words : List NameWord) (rows : List StateWords)
    → MakePattern sites edges rows → (words ≡ []) ⊎ (length words ≡ sites) → (wanted : List Wanted)
    → wanted ≡ map (wanted_of (species_in book)) rows → IsPatternFor sites edges words wanted
pattern_of_rows book sites edges words rows make either wanted is =
    subst (IsPatternFor sites edges words) (sym is) (record { pattern = λ types long. make (species_in book) types long; types = either })

-- a type is asked for of each site
pub one_type_each : (type_names : List (List ℕ)) (sites : ℕ) (words : List NameWord) → (words ≡ []) ⊎ (length words ≡ sites)
    → length (types_for type_names sites words) ≡ sites
one_type_each type_names sites [] either = length-replicate sites None
one_type_each type_names sites (word ∷ words) (inl none) = absurd (cc)
one_type_each type_names sites (word ∷ words) (inr long) = length-map (word ∷ words) _ ∙ long

-- with these types it is sound
pub sound_pattern : (type_names : List (List ℕ)) (sites : ℕ) (edges : List (ℕ × ℕ)) (words : List NameWord) (wanted : List Wanted)
    → IsPatternFor sites edges words wanted → IsPattern (parts edges (types_for type_names sites words) wanted)
sound_pattern type_names sites edges words wanted is = is.pattern _ (one_type_each type_names sites words is.types)
