-- The words and the names on a line.
use Rattle.std.specs.Prelude.{ℕ, ◌||◌, Bool, false, List, [], ◌∷◌, length, map, Option, Result, Ok, codes}
use Rattle.std.specs.List.{list_any}
use Rattle.dec_text.specs.Lines.{Run}
use Rattle.deck_words.specs.Faults.{with_fault}
use Rattle.deck_words.specs.Tables.{same_word}
use Rattle.deck_words.specs.declared.fault.LineFault.{LineFault}
use Rattle.deck_words.specs.declared.kind.TheConstants.{BAD_NAME, REPEATED_NAME}
use Rattle.deck_values.specs.Lists.{fault_if, length_fault}

-- the bytes of some words
abbrev pub bytes_of : List Run → List (List ℕ)
bytes_of words = map (λ word. word.bytes) words

-- the words of a line, of which there should be so many, where that number is known
abbrev pub words_on : {X : Type 0} → Option ℕ → ℕ → List X → Result (List X) LineFault
words_on count line words = with_fault (length_fault line count (length words)) (Ok words)

-- a list has a name twice
abbrev pub names_repeat : List (List ℕ) → Bool
names_repeat [] = false
names_repeat (name ∷ names) = list_any (same_word name) names || names_repeat names

-- the fault of a list that has a name twice
abbrev pub repeat_fault : ℕ → List (List ℕ) → Option LineFault
repeat_fault line names = fault_if (names_repeat names) line REPEATED_NAME

-- the words of a line as names that differ
abbrev pub names_on : Option ℕ → ℕ → List Run → Result (List Run) LineFault
names_on count line words =
    with_fault (length_fault line count (length words)) (with_fault (repeat_fault line (bytes_of words)) (Ok words))

-- the names that no species may have: `*`, which means a vacant site, and `&`, which means any state
abbrev pub is_bad_name : List ℕ → Bool
is_bad_name name = same_word name (codes "*") || same_word name (codes "&")

-- the fault of a list that has such a name
abbrev pub bad_name_fault : ℕ → List (List ℕ) → Option LineFault
bad_name_fault line names = fault_if (list_any is_bad_name names) line BAD_NAME

-- the words of a line as names of species
abbrev pub species_on : Option ℕ → ℕ → List Run → Result (List Run) LineFault
species_on count line words = with_fault (bad_name_fault line (bytes_of words)) (names_on count line words)
