-- an explicit lattice without a fault has a row for each of its sites
use Rattle.std.proofs.Common.{◌≡◌, ◌==◌, ◌∙◌, ap, arith, refl, sym, suc, ℕ, not, false, IfOk, List, [], ◌∷◌, Option, None, Some, Result, Ok, Err, length, map}
use Rattle.std.proofs.lemmas.Bool.Decides.{nat_tests}
use Rattle.std.proofs.lemmas.List.{length-map}
use Rattle.std.proofs.lemmas.Option.{none-some}
use Rattle.std.proofs.lemmas.Result.{IfOk-weaker}
use Rattle.dec_text.specs.Lines.{WordLine}
use Rattle.deck_shape.proofs.BlockValues.{required-holds}
use Rattle.deck_shape.specs.Blocks.{BlockLines}
use Rattle.deck_values.proofs.EarliestFaults.{none_earliest}
use Rattle.deck_values.proofs.Values.{unless-holds}
use Rattle.deck_values.specs.Lists.{has_other_length}
use Rattle.deck_values.specs.Readings.{least_fault, values_of}
use Rattle.deck_words.specs.Faults.{earliest}
use Rattle.deck_words.specs.declared.fault.LineFault.{LineFault}
use Rattle.deck_words.specs.declared.keyword.Keyword.TheVariants.{LatticeStructure}
use Rattle.deck_words.specs.declared.kind.TheConstants.{ROW_COUNT}
use Rattle.lattice_deck.specs.Parts.{listed_on, listed_rows}
use Rattle.lattice_deck.proofs.Readings.{kept_ok}
use Rattle.site_rows.specs.RowFaults.{rows_fault, site_rows}
use Rattle.site_rows.specs.SiteRows.{SiteRow, rows_of, site_row}

-- readings without a fault have as many values
count_values : {X : Type 0} (readings : List (Result X LineFault)) → least_fault readings ≡ None → length (values_of readings) ≡ length readings
count_values [] none = refl
count_values (Ok x ∷ readings) none = ap suc (count_values readings none)
count_values (Err fault ∷ readings) none = absurd (none-some fault (sym (none_earliest (Some fault) (least_fault readings) none).0))

same_count : (members count : ℕ) → not (members == count) ≡ false → members ≡ count
same_count members count same = grind (arith, nat_tests)

-- each line gives a row
rows_long : (sites : Option ℕ) (lines : List WordLine) → IfOk (site_rows sites lines) (λ rows. length rows ≡ length lines)
rows_long sites lines =
    kept_ok (λ rows. length rows ≡ length lines) (earliest (least_fault (map site_row lines)) (rows_fault sites (rows_of lines))) (rows_of lines)
    (λ none. count_values (map site_row lines) (none_earliest (least_fault (map site_row lines)) (rows_fault sites (rows_of lines)) none).0
    ∙ length-map lines site_row)

pub rows_count : (n : ℕ) (block : BlockLines) → IfOk (listed_rows (Some n) block) (λ rows. length rows ≡ n)
rows_count n block =
    let Long = λ (rows : List SiteRow). length rows ≡ n in
    required-holds Long LatticeStructure block (listed_on (Some n))
    (λ item. unless-holds Long (has_other_length (Some n) (length item.rows)) item.line.number ROW_COUNT (site_rows (Some n) item.rows)
    (λ same. IfOk-weaker (site_rows (Some n) item.rows) (λ rows. length rows ≡ length item.rows) Long
    (λ rows long. long ∙ same_count (length item.rows) n same) (rows_long (Some n) item.rows)))
