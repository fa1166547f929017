-- Rows of states, with the species that they name by their numbers.
use Rattle.std.specs.Prelude.{ℕ, ◌&&◌, Bool, not, List, map, Option, None, Some, Result, Ok, if◌then◌else◌, codes, nat_le, slice_index_or, unwrap_or}
use Rattle.std.specs.Option.{option_map, option_map_or}
use Rattle.deck_values.specs.Lists.{fault_if}
use Rattle.deck_words.specs.Faults.{all_of, with_fault}
use Rattle.deck_words.specs.Tables.{same_word}
use Rattle.deck_words.specs.declared.fault.LineFault.{LineFault}
use Rattle.deck_words.specs.declared.kind.TheConstants.{BAD_DENTATE, UNKNOWN_SPECIES}
use Rattle.kmc_base.specs.declared.ids.SpeciesId.{SpeciesId}
use Rattle.pattern_rows.specs.Patterns.{wanted_of}
use Rattle.pattern_rows.specs.States.{EntityWords, StateWords}
use Rattle.pattern_types.specs.declared.wanted.Wanted.{Wanted}
use Rattle.species_book.specs.Book.{Book, place_of, species}

-- the number of the surface species of a name, or 0 where no species has it
abbrev pub species_in : Book → List ℕ → SpeciesId
species_in book name = species (unwrap_or (place_of book.surface name) 0)

-- how many dentates the species of a name has; `*`, a vacant site, has one
abbrev pub dentates_of : Book → List ℕ → Option ℕ
dentates_of book name =
    if same_word (codes "*") name
    then Some 1
    else option_map (λ place. slice_index_or book.dentates place 0) (place_of book.surface name)

-- a number is that of one of so many dentates
abbrev pub is_dentate : ℕ → ℕ → Bool
is_dentate dentates n = nat_le 1 n && nat_le n dentates

-- a dentate that is none of so many, at a line
abbrev pub dentate_fault : ℕ → ℕ → ℕ → Option LineFault
dentate_fault line dentates n = fault_if (not (is_dentate dentates n)) line BAD_DENTATE

-- a name of no species
abbrev pub species_fault : ℕ → LineFault
species_fault line = record { line = line; kind = UNKNOWN_SPECIES }

-- the fault of what a row wants on its site: no species has the name, or the species has no such dentate
abbrev pub entity_fault : Book → EntityWords → Option LineFault
entity_fault book entity =
    option_map_or (λ dentates. dentate_fault entity.species.line dentates entity.dentate) (dentates_of book entity.species.word.bytes)
    (Some (species_fault entity.species.line))

-- the fault of a row; a row that takes any state names no species
abbrev pub row_fault : Book → StateWords → Option LineFault
row_fault book row = option_map_or (entity_fault book) row None

-- what a row wants of its site, with its species by its number, or the fault of the row
abbrev pub wanted_in : Book → StateWords → Result Wanted LineFault
wanted_in book row = with_fault (row_fault book row) (Ok (wanted_of (species_in book) row))

-- what each of some rows wants, or the earliest of their faults
abbrev pub all_wanted : Book → List StateWords → Result (List Wanted) LineFault
all_wanted book rows = all_of (map (wanted_in book) rows)
