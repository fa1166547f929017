-- The rows of states of a pattern (Zacros manual), one for each site: `entity species dentate`, or `& & &` for any state.
-- An entity is the name within a pattern by which several sites want one adsorbate; a vacant site is an entity of the
-- species `*`.
use Rattle.std.specs.Prelude.{ℕ, ◌==◌, ◌&&◌, Bool, false, not, List, [], ◌∷◌, ◌++◌, length, map, Option, None, Some, Result, Ok, if◌then◌else◌, codes}
use Rattle.std.specs.Prelude.{option_and_then}
use Rattle.std.specs.List.{list_any}
use Rattle.std.specs.Option.{option_map, option_map_or}
use Rattle.std.specs.Result.{result_ok}
use Rattle.dec_text.specs.Lines.{Run, WordLine}
use Rattle.dec_text.specs.Wholes.{whole_number}
use Rattle.deck_shape.specs.BlockValues.{required}
use Rattle.deck_shape.specs.Blocks.{BlockLines, ItemLines}
use Rattle.deck_shape.specs.Names.{NameWord, on_line}
use Rattle.deck_values.specs.Lists.{fault_if, has_other_length}
use Rattle.deck_values.specs.Numbers.{whole_in}
use Rattle.deck_values.specs.Readings.{least, least_fault, values_of}
use Rattle.deck_values.specs.Rows.{or_form_fault}
use Rattle.deck_words.specs.Faults.{earliest, with_fault}
use Rattle.deck_words.specs.Tables.{same_word}
use Rattle.deck_words.specs.declared.fault.LineFault.{LineFault}
use Rattle.deck_words.specs.declared.keyword.Keyword.{Keyword}
use Rattle.deck_words.specs.declared.kind.TheConstants.{DOUBLE_DENTATE, ROW_COUNT, TWO_SPECIES}
use Rattle.pattern_rows.specs.declared.ranges.TheConstants.{ENTITY}

-- what a row wants on its site: a dentate of an entity of a species
pub record EntityWords : Type 0 where
  pub entity : ℕ
  pub species : NameWord
  pub dentate : ℕ

-- what a row wants of its site; None is any state
abbrev pub StateWords : Type 0
StateWords = Option EntityWords

-- the word `&`
abbrev pub is_any : Run → Bool
is_any word = same_word (codes "&") word.bytes

-- the entity of three words
abbrev pub entity_of : ℕ → Run → Run → Run → Option EntityWords
entity_of line entity species dentate =
    option_and_then (λ e. option_map (λ d. record { entity = e; species = on_line line species; dentate = d })
    (result_ok (whole_number dentate.bytes))) (result_ok (whole_in ENTITY entity.bytes))

-- what three words want, where any state may be wanted or not; None is another form
abbrev pub three_words : Bool → ℕ → Run → Run → Run → Option StateWords
three_words takes_any line a b c =
    if is_any a && (is_any b && is_any c)
    then (if takes_any then Some None else None)
    else (if is_any b then None else option_map (λ entity. Some entity) (entity_of line a b c))

-- what the words of a row want
abbrev pub state_of : Bool → ℕ → List Run → Option StateWords
state_of takes_any line [] = None
state_of takes_any line (a ∷ []) = None
state_of takes_any line (a ∷ b ∷ []) = None
state_of takes_any line (a ∷ b ∷ c ∷ []) = three_words takes_any line a b c
state_of takes_any line (a ∷ b ∷ c ∷ d ∷ words) = None

-- a row, or the fault of its form
abbrev pub state_row : Bool → WordLine → Result StateWords LineFault
state_row takes_any line = or_form_fault line.number (state_of takes_any line.number line.words)

-- a row wants the same dentate of the same entity
abbrev pub wants_dentate : EntityWords → StateWords → Bool
wants_dentate entity row = option_map_or (λ other. other.entity == entity.entity && other.dentate == entity.dentate) row false

-- a row wants the same entity, of another species
abbrev pub wants_other_species : EntityWords → StateWords → Bool
wants_other_species entity row =
    option_map_or (λ other. other.entity == entity.entity && not (same_word other.species.word.bytes entity.species.word.bytes)) row false

-- the fault of the entity of a row, by the rows above it
abbrev pub entity_fault : List StateWords → EntityWords → Option LineFault
entity_fault above entity =
    least
    (fault_if (list_any (wants_dentate entity) above) entity.species.line DOUBLE_DENTATE
    ∷ fault_if (list_any (wants_other_species entity) above) entity.species.line TWO_SPECIES
    ∷ [])

-- the earliest fault of some rows below others
abbrev pub fault_below : List StateWords → List StateWords → Option LineFault
fault_below above [] = None
fault_below above (row ∷ rows) = earliest (option_map_or (entity_fault above) row None) (fault_below (above ++ row ∷ []) rows)

-- the rows of some lines, or the earliest of their faults
abbrev pub state_rows : Bool → List WordLine → Result (List StateWords) LineFault
state_rows takes_any lines =
    let readings = map (state_row takes_any) lines in
    with_fault (earliest (least_fault readings) (fault_below [] (values_of readings))) (Ok (values_of readings))

-- a word has another number of rows than the pattern has sites, where that number has no fault
abbrev pub row_count_fault : Option ℕ → ItemLines → Option LineFault
row_count_fault sites item = fault_if (has_other_length sites (length item.rows)) item.line.number ROW_COUNT

-- the rows below a word, one for each site
abbrev pub states_on : Bool → Option ℕ → ItemLines → Result (List StateWords) LineFault
states_on takes_any sites item = with_fault (row_count_fault sites item) (state_rows takes_any item.rows)

-- the rows of states that a cluster or a step has below a keyword
abbrev pub states_in : Bool → Option ℕ → Keyword → BlockLines → Result (List StateWords) LineFault
states_in takes_any sites keyword block = required keyword block (states_on takes_any sites)
