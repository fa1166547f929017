-- Rows of `cell_vectors` and `site_coordinates`: decimals whose form is checked, and which are used for nothing.
use Rattle.std.specs.Prelude.{ℕ, ◌==◌, List, [], ◌∷◌, length, map, Option, None, Some, Result, Err, if◌then◌else◌}
use Rattle.dec_text.specs.Decimals.{Scientific}
use Rattle.dec_text.specs.Lines.{WordLine}
use Rattle.deck_shape.specs.Blocks.{ItemLines}
use Rattle.deck_values.specs.Lists.{fault_if, has_other_length}
use Rattle.deck_values.specs.Numbers.{any_decimal}
use Rattle.deck_values.specs.Readings.{least}
use Rattle.deck_values.specs.Rows.{row_words}
use Rattle.deck_words.specs.Faults.{at_line, both, earliest, fault_of}
use Rattle.deck_words.specs.declared.fault.LineFault.{LineFault}
use Rattle.deck_words.specs.declared.kind.TheConstants.{NOT_NUMBER, ROW_COUNT, ROW_FORM}

-- the two decimals of a row
abbrev pub two_decimals : ℕ → List (List ℕ) → Result (Scientific × Scientific) LineFault
two_decimals line [] = Err (record { line = line; kind = ROW_FORM })
two_decimals line (x ∷ []) = Err (record { line = line; kind = ROW_FORM })
two_decimals line (x ∷ y ∷ []) = both (at_line line (any_decimal x)) (at_line line (any_decimal y))
two_decimals line (x ∷ y ∷ next ∷ words) = Err (record { line = line; kind = ROW_FORM })

-- at a row a word of another form is a fault of the row's form
abbrev pub as_row : Option LineFault → Option LineFault
as_row None = None
as_row (Some fault) = if fault.kind == NOT_NUMBER then Some (record { line = fault.line; kind = ROW_FORM }) else Some fault

-- the fault of a row of two decimals
abbrev pub row_fault : WordLine → Option LineFault
row_fault row = as_row (fault_of (two_decimals row.number (row_words row)))

-- the earliest fault of a word that should have so many such rows, where that number is known
abbrev pub coordinates_fault : Option ℕ → ItemLines → Option LineFault
coordinates_fault count item =
    earliest (fault_if (has_other_length count (length item.rows)) item.line.number ROW_COUNT) (least (map row_fault item.rows))
