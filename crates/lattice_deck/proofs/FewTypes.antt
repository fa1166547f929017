-- the site types of a lattice file are few
use Rattle.std.proofs.Common.{◌≡◌, ◌≤◌, ℕ, IfOk, List, Result, Ok, Err, length, arith, subst}
use Rattle.std.specs.Result.{result_ok}
use Rattle.std.proofs.lemmas.List.{length-map}
use Rattle.std.proofs.lemmas.Result.{IfOk-weaker}
use Rattle.deck_shape.proofs.BlockValues.{line_value_or-holds}
use Rattle.deck_shape.specs.BlockValues.{required}
use Rattle.deck_shape.specs.Blocks.{BlockLines}
use Rattle.deck_words.proofs.HeldValues.{both-holds, value_map-holds, with_fault-holds}
use Rattle.deck_words.specs.Faults.{both, value_map, with_fault}
use Rattle.deck_words.specs.declared.fault.LineFault.{LineFault}
use Rattle.deck_words.specs.declared.keyword.Keyword.TheVariants.{HexagonalPeriodic, NCellSites, NSites, RectangularPeriodic}
use Rattle.deck_words.specs.declared.table.BlockForm.{BlockForm}
use Rattle.deck_words.specs.declared.table.BlockForm.TheVariants.{DefaultChoice, PeriodicCell, Explicit}
use Rattle.lattice_cell.specs.declared.expand.DefaultLattice.{DefaultLattice}
use Rattle.lattice_cell.specs.declared.expand.DefaultLattice.TheVariants.{Hexagonal, Rectangular}
use Rattle.lattice_deck.specs.Parts.{LatticeValues, cell_joins, cell_part, cell_repeats, cell_unused, cell_values, default_part, default_values}
use Rattle.lattice_deck.specs.Parts.{listed_part, listed_rows, listed_unused, listed_values, part_for, part_of, sites_in}
use Rattle.lattice_deck.specs.Parts.{type_names, type_words, values_at}
use Rattle.lattice_deck.specs.Sizes.{default_on}
use Rattle.lattice_deck.specs.declared.part.LatticePart.{LatticePart}
use Rattle.site_rows.specs.declared.type_word.TheConstants.{MAX_SITE_TYPES}
use Rattle.lattice_deck.proofs.SizesSound.{names_bounds}

abbrev AreFew : List (List ℕ) → Type 0
AreFew names = length names ≤ MAX_SITE_TYPES

abbrev HasFew : LatticeValues → Type 0
HasFew values = AreFew values.type_names

always : {X F : Type 0} (P : X → Type 0) (r : Result X F) → ((x : X) → P x) → IfOk r P
always P (Ok x) p = p x
always P (Err f) p = tt

one_name : (named : DefaultLattice) (repeats : ℕ × ℕ) → HasFew (default_values named repeats)
one_name named repeats = omega arith

of_default : (block : BlockLines) → IfOk (default_part block) HasFew
of_default block =
    line_value_or-holds HasFew (value_map (default_values Hexagonal) (required HexagonalPeriodic block default_on))
    (λ item. value_map (default_values Rectangular) (default_on item)) RectangularPeriodic block.items
    (value_map-holds HasFew (default_values Hexagonal) (required HexagonalPeriodic block default_on)
    (always (λ r. HasFew (default_values Hexagonal r)) _ (one_name Hexagonal)))
    (λ item. value_map-holds HasFew (default_values Rectangular) (default_on item)
    (always (λ r. HasFew (default_values Rectangular r)) _ (one_name Rectangular)))

-- names beside other values
beside : {X Y : Type 0} (sizes : Result X LineFault) (names : Result (List (List ℕ)) LineFault) (rest : Result Y LineFault) → IfOk names AreFew
    → IfOk (both sizes (both names rest)) (λ found. AreFew found.1.0)
beside sizes names rest few =
    IfOk-weaker (both sizes (both names rest)) (λ found. Unit {0} × (AreFew found.1.0 × Unit {0})) _ (λ found all. all.1.0)
    (both-holds (λ x. Unit {0}) (λ found. AreFew found.0 × Unit {0}) sizes (both names rest) (always (λ x. Unit {0}) sizes (λ x. tt))
    (both-holds AreFew (λ y. Unit {0}) names rest few (always (λ y. Unit {0}) rest (λ y. tt))))

of_cell : (block : BlockLines) → IfOk (cell_part block) HasFew
of_cell block =
    let sites = sites_in NCellSites block in
    let rest = both (type_words (result_ok sites) block) (cell_joins block) in
    let found = both (both sites (cell_repeats block)) (both (type_names block) rest) in
    value_map-holds HasFew cell_values (with_fault (cell_unused block) found)
    (with_fault-holds (λ f. AreFew f.1.0) (cell_unused block) found
    (beside (both sites (cell_repeats block)) (type_names block) rest (names_bounds block)))

of_listed : (block : BlockLines) → IfOk (listed_part block) HasFew
of_listed block =
    let sites = sites_in NSites block in
    let rows = listed_rows (result_ok sites) block in
    let found = both sites (both (type_names block) rows) in
    value_map-holds HasFew listed_values (with_fault (listed_unused block) found)
    (with_fault-holds (λ f. AreFew f.1.0) (listed_unused block) found (beside sites (type_names block) rows (names_bounds block)))

of_form : (form : BlockForm) (block : BlockLines) → IfOk (part_for form block) HasFew
of_form DefaultChoice block = of_default block
of_form PeriodicCell block = of_cell block
of_form Explicit block = of_listed block
of_form form block = tt

-- the names of the types of a file that is read
pub few_names : (block : BlockLines) (text : List ℕ) (part : LatticePart) → part_of block ≡ Ok (values_at text part)
    → length part.type_names ≤ MAX_SITE_TYPES
few_names block text part is =
    let few : HasFew (values_at text part) = subst (λ r. IfOk r HasFew) is (of_form block.form block) in
    omega (arith, few, length-map part.type_names (λ name. name.items))
