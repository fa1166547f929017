-- Gas changes whose names have no fault are of different gas species.
use Rattle.std.proofs.Common.{◌≡◌, ◌∙◌, ◌≤◌, ◌<◌, ℕ, true, false, IfOk, IsTrue, List, [], ◌∷◌, Option, None, Some, Ok, Err, length, map}
use Rattle.std.proofs.Common.{eqb, refl, sym, ap, arith, inl, inr}
use Rattle.std.specs.Prelude.{unsigned_abs}
use Rattle.std.specs.Option.{option_map_or}
use Rattle.std.specs.List.{AllByRecursion, IsDistinct, list_any}
use Rattle.std.proofs.lemmas.Bool.{both_ways, eqb-true, false≢true, ne_eqb, or_cases, or_parts}
use Rattle.std.proofs.lemmas.List.{length-map}
use Rattle.std.proofs.lemmas.List.Elements.{All-from_recursion}
use Rattle.std.proofs.lemmas.Map.Steps.{length-le_from_distinct_below}
use Rattle.std.proofs.lemmas.Result.{IfOk-weaker}
use Rattle.std.proofs.lemmas.Slice.Eq.{bytes_eq-Decides}
use Rattle.deck_join.specs.Gas.{GasChange, change_in, changes_in, gas_fault}
use Rattle.deck_join.specs.SoundValues.{AreSoundChanges}
use Rattle.deck_values.specs.Names.{names_repeat}
use Rattle.deck_words.proofs.HeldValues.{both-holds, value_map-holds}
use Rattle.deck_words.specs.Faults.{both}
use Rattle.deck_words.specs.Tables.{same_word}
use Rattle.kmc_base.specs.declared.limits.TheConstants.{MAX_SPECIES}
use Rattle.mechanism_deck.specs.Changes.{GasWords}
use Rattle.mechanism_deck.specs.Soundness.{AreChanges, IsChange}
use Rattle.species_book.proofs.Places.{place_below, place_found}
use Rattle.species_book.specs.Book.{Book, are_distinct, place_of}

-- a change is of a gas species of the book, which has its name, and of at most 8 molecules
abbrev IsOf : Book → GasWords → GasChange → Type 0
IsOf book gas change = (place_of book.gas gas.0.word.bytes ≡ Some change.0) × (unsigned_abs change.1 ≤ 8)

change_is : (book : Book) (gas : GasWords) → IsChange gas → IfOk (change_in book gas) (IsOf book gas)
change_is book gas small = at (place_of book.gas gas.0.word.bytes) refl
  where
    at : (place : Option ℕ) → place_of book.gas gas.0.word.bytes ≡ place
        → IfOk (option_map_or (λ p. Ok (p, gas.1)) place (Err (gas_fault gas.0.line))) (IsOf book gas)
    at None is = tt
    at (Some p) is = (is, small.1)

-- changes that are one by one of the gas species that are named
abbrev AreOf : Book → List GasWords → List GasChange → Type 0
AreOf book [] [] = Unit {0}
AreOf book [] (change ∷ changes) = ⊥
AreOf book (gas ∷ others) [] = ⊥
AreOf book (gas ∷ others) (change ∷ changes) = IsOf book gas change × AreOf book others changes

changes_are_of : (book : Book) (gas : List GasWords) → AllByRecursion IsChange gas → IfOk (changes_in book gas) (AreOf book gas)
changes_are_of book [] all = tt
changes_are_of book (gas ∷ others) all =
    let first = change_in book gas in
    let rest = changes_in book others in
    value_map-holds (AreOf book (gas ∷ others)) (λ found. found.0 ∷ found.1) (both first rest)
    (both-holds (IsOf book gas) (AreOf book others) first rest (change_is book gas all.0) (changes_are_of book others all.1))

-- two names of one place are one name
same_names : (names : List (List ℕ)) (a b : List ℕ) (place : ℕ) → IsTrue (are_distinct names) → place_of names a ≡ Some place
    → place_of names b ≡ Some place → a ≡ b
same_names names a b place distinct first second =
    let at_a = (place_found names a distinct place).0 first in
    let at_b = (place_found names b distinct place).0 second in
    let same : Some a ≡ Some b = sym at_a ∙ at_b in
    cc

-- the place of a name that is not among some others is none of theirs
place_apart : (book : Book) (name : List ℕ) (place : ℕ) (gas : List GasWords) (changes : List GasChange) → IsTrue (are_distinct book.gas)
    → place_of book.gas name ≡ Some place → AreOf book gas changes
    → list_any (same_word name) (map (λ g. g.0.word.bytes) gas) ≡ false → AllByRecursion (λ p. eqb place p ≡ false) (map (λ c. c.0) changes)
place_apart book name place [] [] distinct is are apart = tt
place_apart book name place [] (change ∷ changes) distinct is are apart = absurd are
place_apart book name place (gas ∷ others) [] distinct is are apart = absurd are
place_apart book name place (gas ∷ others) (change ∷ changes) distinct is are apart =
    let other = gas.0.word.bytes in
    let parts = or_parts (same_word name other) (list_any (same_word name) (map (λ g. g.0.word.bytes) others)) apart in (
      ne_eqb place change.0 (λ same. both_ways (same_word name other) parts.0 ((bytes_eq-Decides name other).1
          (same_names book.gas name other change.0 distinct (is ∙ ap (λ p. Some p) same) are.0.0))),
      place_apart book name place others changes distinct is are.1 parts.1,
    )

-- the places differ
places_differ : (book : Book) (gas : List GasWords) (changes : List GasChange) → IsTrue (are_distinct book.gas) → AreOf book gas changes
    → names_repeat (map (λ g. g.0.word.bytes) gas) ≡ false → IsDistinct eqb (map (λ c. c.0) changes)
unfolding IsDistinct
places_differ book [] [] distinct are differ = tt
places_differ book [] (change ∷ changes) distinct are differ = absurd are
places_differ book (gas ∷ others) [] distinct are differ = absurd are
places_differ book (gas ∷ others) (change ∷ changes) distinct are differ =
    let names = map (λ g. g.0.word.bytes) others in
    let parts = or_parts (list_any (same_word gas.0.word.bytes) names) (names_repeat names) differ in (
      place_apart book gas.0.word.bytes change.0 others changes distinct are.0.0 are.1 parts.0,
      places_differ book others changes distinct are.1 parts.1,
    )

-- they are below the number of gas species
species_below : (book : Book) (gas : List GasWords) (changes : List GasChange) → AreOf book gas changes
    → AllByRecursion (λ change. change.0 < length book.gas) changes
species_below book [] [] are = tt
species_below book [] (change ∷ changes) are = absurd are
species_below book (gas ∷ others) [] are = absurd are
species_below book (gas ∷ others) (change ∷ changes) are = (
  place_below book.gas gas.0.word.bytes change.0 are.0.0,
  species_below book others changes are.1,
)

places_below : (n : ℕ) (changes : List GasChange) → AllByRecursion (λ change. change.0 < n) changes → (place : ℕ)
    → list_any (eqb place) (map (λ c. c.0) changes) ≡ true → place < n
places_below n [] all place found = absurd (false≢true found)
places_below n (change ∷ changes) all place found =
    elim (or_cases (eqb place change.0) (list_any (eqb place) (map (λ c. c.0) changes)) found) [
      | inl same ↦ rw (eqb-true place change.0 same) all.0
      | inr later ↦ places_below n changes all.1 place later
    ]

few_molecules : (book : Book) (gas : List GasWords) (changes : List GasChange) → AreOf book gas changes
    → AllByRecursion (λ change. unsigned_abs change.1 ≤ 8) changes
few_molecules book [] [] are = tt
few_molecules book [] (change ∷ changes) are = absurd are
few_molecules book (gas ∷ others) [] are = absurd are
few_molecules book (gas ∷ others) (change ∷ changes) are = (are.0.1, few_molecules book others changes are.1)

-- the changes of a sound step over a book whose names differ, of which there are at most 64
pub changes_are : (book : Book) (gas : List GasWords) → IsTrue (are_distinct book.gas) → length book.gas ≤ MAX_SPECIES → AreChanges gas
    → IfOk (changes_in book gas) (AreSoundChanges (length book.gas))
changes_are book gas distinct few are =
    IfOk-weaker (changes_in book gas) (AreOf book gas) (AreSoundChanges (length book.gas))
    (λ changes of_gas.
    let below = species_below book gas changes of_gas in
    let so_many = length-le_from_distinct_below (map (λ c. c.0) changes) (length book.gas) (places_differ book gas changes distinct of_gas are.differ)
    (places_below (length book.gas) changes below) in
    record {
      few = omega (arith, few, so_many, length-map changes (λ c. c.0));
      species = All-from_recursion (λ change. change.0 < length book.gas) changes below;
      molecules = All-from_recursion (λ change. unsigned_abs change.1 ≤ 8) changes (few_molecules book gas changes of_gas);
    })
    (changes_are_of book gas are.changes)
