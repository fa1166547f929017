-- The rows of `lattice_structure` (Zacros manual), one for each site: the site's number from 1, its two coordinates, its
-- type, the number of its neighbours, and its neighbours.
use Rattle.std.specs.Prelude.{ℕ, ◌==◌, ◌||◌, Bool, true, false, List, [], ◌∷◌, length, map, Option, None, Some, Result, Ok, Err, if◌then◌else◌}
use Rattle.std.specs.Prelude.{option_and_then}
use Rattle.std.specs.List.{find}
use Rattle.std.specs.Option.{option_map}
use Rattle.std.specs.Result.{result_ok}
use Rattle.dec_text.specs.Decimals.{Scientific, decimal_of}
use Rattle.dec_text.specs.Lines.{Run, WordLine}
use Rattle.dec_text.specs.Wholes.{whole_number}
use Rattle.dec_text.specs.declared.faults.DecimalFault.{DecimalFault}
use Rattle.dec_text.specs.declared.faults.DecimalFault.TheVariants.{Form, Power}
use Rattle.deck_values.specs.Names.{bytes_of}
use Rattle.deck_values.specs.Readings.{values_of}
use Rattle.deck_values.specs.Rows.{or_form_fault}
use Rattle.deck_words.specs.declared.fault.LineFault.{LineFault}

-- a row of the right form
pub record SiteRow : Type 0 where
  pub line : ℕ
  pub site : ℕ
  pub type_word : Run
  pub neighbours : List ℕ
  -- a coordinate has a power of ten outside -400 to 400
  pub is_out_of_range : Bool

-- whole numbers, where each word writes one
abbrev pub all_whole : List (List ℕ) → Option (List ℕ)
all_whole [] = Some []
all_whole (word ∷ words) = option_and_then (λ n. option_map (λ ns. n ∷ ns) (all_whole words)) (result_ok (whole_number word))

-- the neighbours that some words write, where there are as many as the row says
abbrev pub neighbours_of : Option ℕ → List (List ℕ) → Option (List ℕ)
neighbours_of None words = None
neighbours_of (Some count) words = if length words == count then all_whole words else None

-- whether the power of ten of a coordinate is out of range, where its word has the form of a decimal
abbrev pub is_out_of_range : Result Scientific DecimalFault → Option Bool
is_out_of_range (Ok n) = Some false
is_out_of_range (Err Form) = None
is_out_of_range (Err Power) = Some true

-- whether the power of ten of one of two coordinates is out of range, where both words have the form of a decimal
abbrev pub is_either_out_of_range : List ℕ → List ℕ → Option Bool
is_either_out_of_range x y = option_and_then (λ a. option_map (λ b. a || b) (is_out_of_range (decimal_of y))) (is_out_of_range (decimal_of x))

-- the row of these parts on a line, where each has the right form
abbrev pub row_made : ℕ → Run → Option ℕ → Option Bool → Option (List ℕ) → Option SiteRow
row_made line type_word site past neighbours =
    option_and_then (λ s.
    option_and_then (λ is_out_of_range.
    option_map (λ ns. record {
      line = line;
      site = s;
      type_word = type_word;
      neighbours = ns;
      is_out_of_range = is_out_of_range;
    }) neighbours) past) site

-- the row of a site that the words of a line write
abbrev pub row_of : ℕ → List Run → Option SiteRow
row_of line [] = None
row_of line (a ∷ []) = None
row_of line (a ∷ x ∷ []) = None
row_of line (a ∷ x ∷ y ∷ []) = None
row_of line (a ∷ x ∷ y ∷ t ∷ []) = None
row_of line (a ∷ x ∷ y ∷ t ∷ n ∷ words) =
    row_made line t (result_ok (whole_number a.bytes)) (is_either_out_of_range x.bytes y.bytes)
    (neighbours_of (result_ok (whole_number n.bytes)) (bytes_of words))

-- the row of a site on a line, or the fault of its form
abbrev pub site_row : WordLine → Result SiteRow LineFault
site_row line = or_form_fault line.number (row_of line.number line.words)

-- the rows of the right form, in order
abbrev pub rows_of : List WordLine → List SiteRow
rows_of lines = values_of (map site_row lines)

-- the first of some rows that gives a site
abbrev pub row_for : ℕ → List SiteRow → Option SiteRow
row_for site rows = find (λ row. row.site == site) rows
