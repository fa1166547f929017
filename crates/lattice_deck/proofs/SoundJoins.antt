-- rows without a fault give a cell without one
use Rattle.std.proofs.Common.{◌≡◌, ◌∙◌, ap, arith, refl, sym, ℕ, ◌-◌, ◌==◌, ◌&&◌, true, false, Bool, IfOk, List, [], ◌∷◌, Option, None}
use Rattle.std.proofs.Common.{Some, is_none, map}
use Rattle.std.specs.List.{list_any}
use Rattle.std.proofs.lemmas.Bool.{and_parts, both_ways, false_from_ne_true, or_parts}
use Rattle.std.proofs.lemmas.Bool.Decides.{nat_tests}
use Rattle.deck_shape.proofs.BlockValues.{required-holds}
use Rattle.deck_shape.specs.Blocks.{BlockLines}
use Rattle.deck_values.proofs.EarliestFaults.{none_earliest, none_if}
use Rattle.deck_values.specs.Lists.{fault_if}
use Rattle.deck_values.specs.Readings.{least, least_fault, values_of}
use Rattle.deck_words.specs.Faults.{earliest}
use Rattle.deck_words.specs.declared.fault.LineFault.{LineFault}
use Rattle.deck_words.specs.declared.keyword.Keyword.TheVariants.{NeighboringStructure}
use Rattle.deck_words.specs.declared.kind.TheConstants.{SELF_NEIGHBOUR, TOO_MANY_NEIGHBOURS}
use Rattle.lattice_cell.specs.Cells.{displaced}
use Rattle.lattice_cell.specs.Faultless.{IsFaultlessCell}
use Rattle.lattice_cell.specs.Faultless.{joins_itself as join_itself}
use Rattle.lattice_cell.specs.declared.cell.Toward.{Toward}
use Rattle.lattice_cell.specs.declared.cell.Toward.TheVariants.{Own, North, Northeast, East, Southeast}
use Rattle.lattice_deck.specs.Ends.{AreEnds, HasEnds}
use Rattle.lattice_deck.specs.Joins.{crowd_fault, crowds, itself_fault, join_from, join_row, joins_itself, joins_on, leads_back, sound_joins}
use Rattle.lattice_deck.specs.Parts.{cell_joins, cell_sizes}
use Rattle.lattice_deck.specs.declared.joins.JoinRow.{JoinRow}
use Rattle.lattice_deck.specs.declared.sizes.Sizes.{Sizes}
use Rattle.lattice_deck.proofs.Readings.{kept_ok}
use Rattle.site_rows.specs.SiteNumbers.{is_no_site}

-- what does not lead back
not_back : (r : ℕ × ℕ) (t : Toward) → leads_back (Some r) t ≡ false → (displaced r.0 r.1 t 0 == 0) ≡ false
not_back r Own away = absurd (cc)
not_back r North away = away
not_back r Northeast away = away
not_back r East away = away
not_back r Southeast away = away

-- sites from 1 are the same where those from 0 are
same_ends : (sites : ℕ) (row : JoinRow) → HasEnds (Some sites) row → (row.from - 1 == row.to - 1) ≡ (row.from == row.to)
same_ends sites row ends =
    let parts = or_parts (is_no_site (Some sites) row.from) (is_no_site (Some sites) row.to) ends.sound in
    let first = parts.0 in
    let second = parts.1 in
    grind (arith, nat_tests, first, second)

-- a row that does not join a site to itself gives a join that does not
not_itself : (sites : ℕ) (r : ℕ × ℕ) (row : JoinRow) → HasEnds (Some sites) row → joins_itself (Some r) row ≡ false
    → join_itself r.0 r.1 (join_from row) ≡ false
not_itself sites r row ends none =
    false_from_ne_true (join_itself r.0 r.1 (join_from row)) (λ own.
    let parts = and_parts (row.from - 1 == row.to - 1) (displaced r.0 r.1 row.toward 0 == 0) own in
    let same : (row.from == row.to) ≡ true = sym (same_ends sites row ends) ∙ parts.0 in
    let away : leads_back (Some r) row.toward ≡ false = rw same at none in
    both_ways (displaced r.0 r.1 row.toward 0 == 0) (not_back r row.toward away) parts.1)

none_itself : (sites : ℕ) (r : ℕ × ℕ) (rows : List JoinRow) → AreEnds (Some sites) rows → least (map (itself_fault (Some r)) rows) ≡ None
    → list_any (join_itself r.0 r.1) (map join_from rows) ≡ false
none_itself sites r [] ends none = refl
none_itself sites r (row ∷ rows) ends none =
    let parts = none_if (joins_itself (Some r) row) row.line SELF_NEIGHBOUR (map (itself_fault (Some r)) rows) none in
    rw (not_itself sites r row ends.0 parts.0, none_itself sites r rows ends.1 parts.1) refl

if_none : (holds : Bool) (line kind : ℕ) → fault_if holds line kind ≡ None → holds ≡ false
if_none true line kind none = absurd (cc)
if_none false line kind none = refl

-- rows that have no fault as those of a cell of these sizes
pub record AreSound (sizes : Sizes) (rows : List JoinRow) : Type 0 where
  pub not_crowded : crowds sizes.sites sizes.repeats rows ≡ false
  pub none_itself : least (map (itself_fault sizes.repeats) rows) ≡ None

sound_rows : (sizes : Sizes) (line : ℕ) (of_rows : Option LineFault) (rows : List JoinRow) → IfOk (sound_joins sizes line of_rows rows) (AreSound sizes)
sound_rows sizes line of_rows rows =
    let own = least (map (itself_fault sizes.repeats) rows) in
    kept_ok (AreSound sizes) (earliest (crowd_fault sizes line of_rows rows) (earliest of_rows own)) rows
    (λ none.
    let first = none_earliest (crowd_fault sizes line of_rows rows) (earliest of_rows own) none in
    let rest = none_earliest of_rows own first.1 in
    let crowd : (is_none of_rows && crowds sizes.sites sizes.repeats rows) ≡ false =
    if_none (is_none of_rows && crowds sizes.sites sizes.repeats rows) line TOO_MANY_NEIGHBOURS first.0 in
    record { not_crowded = ap (λ f. is_none f && crowds sizes.sites sizes.repeats rows) (sym rest.0) ∙ crowd; none_itself = rest.1 })

pub joins_sound : (block : BlockLines) → IfOk (cell_joins block) (AreSound (cell_sizes block))
joins_sound block =
    let sizes = cell_sizes block in
    required-holds (AreSound sizes) NeighboringStructure block (joins_on sizes)
    (λ item. sound_rows sizes item.line.number (least_fault (map (join_row sizes.sites) item.rows)) (values_of (map (join_row sizes.sites) item.rows)))

-- they give a cell without a fault
pub faultless_cell : (sizes : Sizes) (rows : List JoinRow) → AreSound sizes rows → (sites : ℕ) (r : ℕ × ℕ) → sizes.sites ≡ Some sites
    → sizes.repeats ≡ Some r → AreEnds (Some sites) rows → IsFaultlessCell r.0 r.1 sites (map join_from rows)
faultless_cell sizes rows sound sites r known repeated ends = record {
  none_itself = none_itself sites r rows ends (ap (λ k. least (map (itself_fault k) rows)) (sym repeated) ∙ sound.none_itself);
  none_crowded = ap (λ k. crowds k (Some r) rows) (sym known) ∙ ap (λ k. crowds sizes.sites k rows) (sym repeated) ∙ sound.not_crowded;
}
