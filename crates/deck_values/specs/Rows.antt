-- The rows below a word line: their words, and the fault of a row of another form.
use Rattle.std.specs.Prelude.{ℕ, List, Option, None, Some, Result, Ok, Err}
use Rattle.dec_text.specs.Lines.{WordLine}
use Rattle.deck_values.specs.Names.{bytes_of}
use Rattle.deck_words.specs.declared.fault.LineFault.{LineFault}
use Rattle.deck_words.specs.declared.kind.TheConstants.{ROW_FORM}

-- the words of a row
abbrev pub row_words : WordLine → List (List ℕ)
row_words row = bytes_of row.words

-- what was found on a line, or else the fault of the row's form
abbrev pub or_form_fault : {X : Type 0} → ℕ → Option X → Result X LineFault
or_form_fault line None = Err (record { line = line; kind = ROW_FORM })
or_form_fault line (Some row) = Ok row
