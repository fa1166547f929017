-- The rows of a side of a step, where no row may take any state, each want an entity.
use Rattle.std.proofs.Common.{ℕ, Bool, true, false, IfOk, List, [], ◌∷◌, Option, None, Some, Result, Ok, Err, map, refl}
use Rattle.std.specs.Prelude.{if◌then◌else◌, IfSome, IsSome}
use Rattle.std.specs.List.{AllByRecursion}
use Rattle.std.specs.Option.{option_map}
use Rattle.dec_text.specs.Lines.{Run, WordLine}
use Rattle.deck_shape.proofs.BlockValues.{required-holds}
use Rattle.deck_shape.specs.Blocks.{BlockLines}
use Rattle.deck_values.specs.Readings.{least_fault, values_of, with_value}
use Rattle.deck_values.specs.Rows.{or_form_fault}
use Rattle.deck_words.proofs.HeldValues.{with_fault-holds}
use Rattle.deck_words.specs.Faults.{earliest}
use Rattle.deck_words.specs.declared.fault.LineFault.{LineFault}
use Rattle.deck_words.specs.declared.keyword.Keyword.{Keyword}
use Rattle.pattern_rows.specs.States.{EntityWords, StateWords, entity_of, fault_below, is_any, row_count_fault, state_of, state_row}
use Rattle.pattern_rows.specs.States.{state_rows, states_in, states_on}

-- each of some rows wants an entity
abbrev pub AreEntities : List StateWords → Type 0
AreEntities rows = AllByRecursion (λ row. IsSome row) rows

-- three words, by whether all are `&`, whether the second is, and the entity that they name
three : (any second : Bool) (entity : Option EntityWords)
    → IfSome (if any then None else (if second then None else option_map (λ e. Some e) entity)) (λ row. IsSome row)
three true second entity = tt
three false true entity = tt
three false false None = tt
three false false (Some e) = refl

words_are : (line : ℕ) (words : List Run) → IfSome (state_of false line words) (λ row. IsSome row)
words_are line [] = tt
words_are line (a ∷ []) = tt
words_are line (a ∷ b ∷ []) = tt
words_are line (a ∷ b ∷ c ∷ []) = three _ (is_any b) (entity_of line a b c)
words_are line (a ∷ b ∷ c ∷ d ∷ words) = tt

form-holds : {X : Type 0} (P : X → Type 0) (line : ℕ) (row : Option X) → IfSome row P → IfOk (or_form_fault line row) P
form-holds P line None p = tt
form-holds P line (Some x) p = p

one_more : (row : Result StateWords LineFault) (rows : List StateWords) → IfOk row (λ r. IsSome r) → AreEntities rows
    → AreEntities (with_value row rows)
one_more (Ok row) rows p all = (p, all)
one_more (Err fault) rows p all = all

values_are : (lines : List WordLine) → AreEntities (values_of (map (state_row false) lines))
values_are [] = tt
values_are (line ∷ lines) =
    one_more (state_row false line) (values_of (map (state_row false) lines))
    (form-holds (λ row. IsSome row) line.number (state_of false line.number line.words) (words_are line.number line.words)) (values_are lines)

rows_are : (lines : List WordLine) → IfOk (state_rows false lines) AreEntities
rows_are lines =
    let readings = map (state_row false) lines in
    with_fault-holds AreEntities (earliest (least_fault readings) (fault_below [] (values_of readings))) (Ok (values_of readings)) (values_are lines)

-- the rows below a word each want an entity
pub entities-hold : (sites : Option ℕ) (keyword : Keyword) (block : BlockLines) → IfOk (states_in false sites keyword block) AreEntities
entities-hold sites keyword block =
    required-holds AreEntities keyword block (states_on false sites)
    (λ item. with_fault-holds AreEntities (row_count_fault sites item) (state_rows false item.rows) (rows_are item.rows))
