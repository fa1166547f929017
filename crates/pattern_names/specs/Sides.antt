-- The two sides of a step: what its sites hold before and after it. On each side every adsorbate is there as a whole, so an
-- entity has a row for each dentate of its species.
use Rattle.std.specs.Prelude.{ℕ, ◌==◌, ◌&&◌, Bool, false, not, List, Option, Result, is_some}
use Rattle.std.specs.List.{list_any, range_with_len}
use Rattle.std.specs.Option.{option_map_or}
use Rattle.deck_values.specs.Lists.{fault_if}
use Rattle.deck_words.specs.Faults.{with_fault}
use Rattle.deck_words.specs.Tables.{same_word}
use Rattle.deck_words.specs.declared.fault.LineFault.{LineFault}
use Rattle.deck_words.specs.declared.kind.TheConstants.{MISSING_DENTATE}
use Rattle.pattern_rows.specs.States.{EntityWords, StateWords}
use Rattle.pattern_types.specs.declared.wanted.Wanted.{Wanted}
use Rattle.species_book.specs.Book.{Book}
use Rattle.pattern_names.specs.Species.{all_wanted, dentates_of, row_fault}

-- a row is of an entity and has a fault itself
abbrev pub is_faulty_row : Book → ℕ → StateWords → Bool
is_faulty_row book entity row = option_map_or (λ other. other.entity == entity && is_some (row_fault book row)) row false

-- a row wants a dentate of an entity of a species
abbrev pub wants_dentate_of : ℕ → List ℕ → ℕ → StateWords → Bool
wants_dentate_of entity species dentate row =
    option_map_or (λ other. other.entity == entity && (same_word other.species.word.bytes species && other.dentate == dentate)) row false

-- no row wants one of so many dentates of an entity of a species
abbrev pub lacks_one : List StateWords → ℕ → List ℕ → ℕ → Bool
lacks_one rows entity species dentates =
    list_any (λ d. not (list_any (wants_dentate_of entity species d) rows)) (range_with_len 1 dentates)

-- an entity lacks a dentate of its species. That is not looked at where a row of it has a fault itself.
abbrev pub lacks_dentate : Book → List StateWords → EntityWords → Bool
lacks_dentate book rows e =
    not (list_any (is_faulty_row book e.entity) rows)
    && option_map_or (lacks_one rows e.entity e.species.word.bytes) (dentates_of book e.species.word.bytes) false

-- the fault of a side in which some entity lacks a dentate, at the line of its word `initial` or `final`
abbrev pub missing_dentate : Book → ℕ → List StateWords → Option LineFault
missing_dentate book line rows = fault_if (list_any (λ row. option_map_or (lacks_dentate book rows) row false) rows) line MISSING_DENTATE

-- what a side wants of its sites, or the earliest of its faults
abbrev pub side_in : Book → ℕ → List StateWords → Result (List Wanted) LineFault
side_in book line rows = with_fault (missing_dentate book line rows) (all_wanted book rows)
