-- What a step makes of the numbers of gas species (`gas_reacs_prods` in the Zacros manual): pairs of a name and a whole
-- number, which is negative where the step takes them up.
use Rattle.std.specs.Prelude.{ℕ, ℤ, ◌==◌, true, false, List, [], ◌∷◌, map, take, Result, Ok, Err, if◌then◌else◌}
use Rattle.dec_text.specs.Decimals.{signed}
use Rattle.dec_text.specs.Lines.{Run}
use Rattle.deck_shape.specs.BlockValues.{line_value_or}
use Rattle.deck_shape.specs.Blocks.{BlockLines, ItemLines}
use Rattle.deck_shape.specs.LineWords.{arguments_of}
use Rattle.deck_shape.specs.Names.{NameWord, on_line}
use Rattle.deck_values.specs.Names.{repeat_fault}
use Rattle.deck_values.specs.Numbers.{whole_in}
use Rattle.deck_values.specs.Readings.{least_fault, values_of}
use Rattle.deck_words.specs.Faults.{at_line, earliest, value_map, with_fault}
use Rattle.deck_words.specs.declared.fault.LineFault.{LineFault}
use Rattle.deck_words.specs.declared.keyword.Keyword.TheVariants.{GasReacsProds}
use Rattle.deck_words.specs.declared.kind.TheConstants.{NOT_WHOLE}
use Rattle.mechanism_deck.specs.declared.ranges.TheConstants.{GAS_CHANGE, MOST_CHANGES}

-- the magnitude behind a minus; no plus may follow it
abbrev pub after_minus : List ℕ → Result ℕ ℕ
after_minus [] = Err NOT_WHOLE
after_minus (b ∷ bs) = if b == 43 then Err NOT_WHOLE else whole_in GAS_CHANGE (b ∷ bs)

-- a word as a change: a whole number with one sign at most, of a magnitude from 1 to 8
abbrev pub change_of : List ℕ → Result ℤ ℕ
change_of [] = Err NOT_WHOLE
change_of (b ∷ bs) =
    if b == 45
    then value_map (signed true) (after_minus bs)
    else value_map (signed false) (whole_in GAS_CHANGE (b ∷ bs))

-- the pairs of some words; a last word by itself is none
abbrev pub pairs_of : {X : Type 0} → List X → List (X × X)
pairs_of [] = []
pairs_of (word ∷ []) = []
pairs_of (word ∷ next ∷ words) = (word, next) ∷ pairs_of words

-- a gas species, and the change of its number
abbrev pub GasWords : Type 0
GasWords = NameWord × ℤ

-- a pair of words on a line as a change
abbrev pub gas_change : ℕ → Run × Run → Result GasWords LineFault
gas_change line pair = value_map (λ change. (on_line line pair.0, change)) (at_line line (change_of pair.1.bytes))

-- the names of some pairs
abbrev pub first_names : List (Run × Run) → List (List ℕ)
first_names pairs = map (λ pair. pair.0.bytes) pairs

-- the pairs of words on a line as changes of different species, or the earliest of their faults
abbrev pub changes_on : ℕ → List (Run × Run) → Result (List GasWords) LineFault
changes_on line pairs =
    let readings = map (gas_change line) pairs in
    with_fault (earliest (repeat_fault line (first_names pairs)) (least_fault readings)) (Ok (values_of readings))

-- The changes on a line. Of more than 65 the first 65 are kept: there are at most 64 gas species, so one of these names none.
abbrev pub gas_on : ItemLines → Result (List GasWords) LineFault
gas_on item = value_map (take MOST_CHANGES) (changes_on item.line.number (pairs_of (arguments_of item.line)))

-- the changes of a step
abbrev pub gas_in : BlockLines → Result (List GasWords) LineFault
gas_in block = line_value_or (Ok []) gas_on GasReacsProds block.items
