-- What the rows of a pattern want, where none of their names has a fault.
use Rattle.std.proofs.Common.{◌≡◌, ◌≤◌, ℕ, Bool, true, false, not, IfOk, List, [], ◌∷◌, Option, None, Some, Ok, map, refl, arith}
use Rattle.std.specs.Prelude.{if◌then◌else◌, slice_index_or, unwrap_or, codes}
use Rattle.std.specs.Option.{option_map, option_map_or}
use Rattle.std.specs.List.{All, AllByRecursion}
use Rattle.std.proofs.lemmas.Bool.Decides.{nat_tests}
use Rattle.std.proofs.lemmas.List.Elements.{All-from_recursion}
use Rattle.std.proofs.lemmas.Result.{IfOk-weaker}
use Rattle.deck_values.proofs.Values.{unless-holds}
use Rattle.deck_words.proofs.HeldValues.{with_fault-holds}
use Rattle.deck_words.specs.Faults.{with_fault}
use Rattle.deck_words.specs.Tables.{same_word}
use Rattle.deck_words.specs.declared.fault.LineFault.{LineFault}
use Rattle.deck_words.specs.declared.kind.TheConstants.{BAD_DENTATE}
use Rattle.pattern_names.proofs.Members.{AreSo, members-are, members-hold}
use Rattle.pattern_names.specs.Species.{all_wanted, dentate_fault, is_dentate, row_fault, species_fault, species_in, wanted_in}
use Rattle.pattern_rows.specs.Patterns.{wanted_of}
use Rattle.pattern_rows.specs.States.{StateWords}
use Rattle.pattern_types.specs.declared.wanted.Wanted.{Wanted}
use Rattle.pattern_types.specs.declared.wanted.Wanted.TheVariants.{Any, Holds, Vacant}
use Rattle.species_book.specs.Book.{Book, place_of, species}

-- a dentate that is wanted is one of those of its species in the book
abbrev pub IsOfSpecies : Book → Wanted → Type 0
IsOfSpecies book Any = Unit {0}
IsOfSpecies book Vacant = Unit {0}
IsOfSpecies book (Holds entity species dentate) = (1 ≤ dentate) × (dentate ≤ slice_index_or book.dentates species.0 0)

in_range : (dentates n : ℕ) → not (is_dentate dentates n) ≡ false → (1 ≤ n) × (n ≤ dentates)
in_range dentates n e = (grind (arith, nat_tests), grind (arith, nat_tests))

-- an entity, by whether its word is `*` and by the place of its species
entity_is : (book : Book) (vacant : Bool) (place : Option ℕ) (line entity dentate : ℕ) (unknown : LineFault)
    → IfOk (with_fault (option_map_or (λ dentates. dentate_fault line dentates dentate)
    (if vacant then Some 1 else option_map (λ p. slice_index_or book.dentates p 0) place) (Some unknown))
    (Ok (if vacant then Vacant else Holds entity (species (unwrap_or place 0)) dentate))) (IsOfSpecies book)
entity_is book true place line entity dentate unknown =
    unless-holds (IsOfSpecies book) (not (is_dentate 1 dentate)) line BAD_DENTATE (Ok Vacant) (λ none. tt)
entity_is book false None line entity dentate unknown = tt
entity_is book false (Some place) line entity dentate unknown =
    let dentates = slice_index_or book.dentates place 0 in
    unless-holds (IsOfSpecies book) (not (is_dentate dentates dentate)) line BAD_DENTATE (Ok (Holds entity (species place) dentate))
    (λ none. in_range dentates dentate none)

-- what a row wants is of its species
row_is : (book : Book) (row : StateWords) → IfOk (wanted_in book row) (IsOfSpecies book)
row_is book None = tt
row_is book (Some entity) =
    let word = entity.species.word.bytes in
    entity_is book (same_word (codes "*") word) (place_of book.surface word) entity.species.line entity.entity entity.dentate
    (species_fault entity.species.line)

every : {X : Type 0} (xs : List X) → AllByRecursion (λ x. Unit {0}) xs
every [] = tt
every (x ∷ xs) = (tt, every xs)

-- what rows without a fault want is what they say, with their species by the numbers in the book
pub wanted_are : (book : Book) (rows : List StateWords) → IfOk (all_wanted book rows) (λ wanted. wanted ≡ map (wanted_of (species_in book)) rows)
wanted_are book rows =
    let wants = wanted_of (species_in book) in
    members-are (wanted_in book) wants
    (λ row. with_fault-holds (λ wanted. wanted ≡ wants row) (row_fault book row) (Ok (wants row)) refl) rows

-- and each dentate that they want is one of those of its species
pub species_are : (book : Book) (rows : List StateWords) → IfOk (all_wanted book rows) (All (IsOfSpecies book))
species_are book rows =
    IfOk-weaker (all_wanted book rows) (AreSo (IsOfSpecies book) rows) (All (IsOfSpecies book))
    (λ wanted so. All-from_recursion (IsOfSpecies book) wanted so.1)
    (members-hold (λ row. Unit {0}) (IsOfSpecies book) (wanted_in book) (λ row u. row_is book row) rows (every rows))
