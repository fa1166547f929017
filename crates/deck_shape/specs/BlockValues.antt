-- The values that the word lines of a block state, each at its line.
use Rattle.std.specs.Prelude.{ℕ, List, [], ◌∷◌, Option, None, Result, Err}
use Rattle.std.specs.List.{find}
use Rattle.std.specs.Option.{option_map_or}
use Rattle.deck_shape.specs.Blocks.{BlockLines, ItemLines, has_keyword}
use Rattle.deck_shape.specs.WordLines.{words_of}
use Rattle.deck_words.specs.Faults.{at_line}
use Rattle.deck_words.specs.declared.fault.LineFault.{LineFault}
use Rattle.deck_words.specs.declared.keyword.Keyword.{Keyword}
use Rattle.deck_words.specs.declared.kind.TheConstants.{ARGUMENT_COUNT, MISSING_WORD}

-- the value of one word, where there is exactly one
abbrev pub one : {X : Type 0} → (List ℕ → Result X ℕ) → List (List ℕ) → Result X ℕ
one read [] = Err ARGUMENT_COUNT
one read (word ∷ []) = read word
one read (word ∷ next ∷ words) = Err ARGUMENT_COUNT

-- the value of the one word on a line
abbrev pub value_on : {X : Type 0} → (List ℕ → Result X ℕ) → ItemLines → Result X LineFault
value_on read item = at_line item.line.number (one read (words_of item))

-- the value of the line that a keyword has, or the other one where the keyword is absent
abbrev pub line_value_or : {X : Type 0} → Result X LineFault → (ItemLines → Result X LineFault) → Keyword → List ItemLines → Result X LineFault
line_value_or absent read keyword items = option_map_or read (find (has_keyword keyword) items) absent

-- the value of the words behind a keyword, or the other one where the keyword is absent
abbrev pub value_or : {X : Type 0} → Result X LineFault → (List (List ℕ) → Result X ℕ) → Keyword → List ItemLines → Result X LineFault
value_or absent read keyword items = line_value_or absent (λ item. at_line item.line.number (read (words_of item))) keyword items

-- a required word is absent
abbrev pub missing_word : {X : Type 0} → ℕ → Result X LineFault
missing_word end_line = Err (record { line = end_line; kind = MISSING_WORD })

-- what a block states by a word that it must have; where the word is missing, the fault is at the closing line
abbrev pub required : {X : Type 0} → Keyword → BlockLines → (ItemLines → Result X LineFault) → Result X LineFault
required keyword block read = line_value_or (missing_word block.end_line) read keyword block.items

-- the fault of a word that the block may have
abbrev pub fault_in : Keyword → BlockLines → (ItemLines → Option LineFault) → Option LineFault
fault_in keyword block fault = option_map_or fault (find (has_keyword keyword) block.items) None
