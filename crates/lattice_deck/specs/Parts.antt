-- The values of a lattice file.
use Rattle.std.specs.Prelude.{ℕ, List, [], ◌∷◌, length, map, Option, Some, Result, Err, codes}
use Rattle.std.specs.List.{find}
use Rattle.std.specs.Option.{option_map_or}
use Rattle.std.specs.Result.{result_ok}
use Rattle.deck_shape.specs.BlockValues.{fault_in, required, value_on}
use Rattle.deck_shape.specs.Blocks.{BlockLines, ItemLines, has_keyword}
use Rattle.deck_shape.specs.LineWords.{arguments_of}
use Rattle.deck_shape.specs.Names.{NameWord, name_at, on_line}
use Rattle.deck_shape.specs.WordLines.{names_on as names_of_line}
use Rattle.deck_values.specs.Lists.{fault_if, has_other_length}
use Rattle.deck_values.specs.Names.{bytes_of, names_on, words_on}
use Rattle.deck_values.specs.Numbers.{whole_in}
use Rattle.deck_values.specs.declared.number.TheConstants.{ANY_WHOLE}
use Rattle.deck_words.specs.Faults.{both, earliest, fault_of, value_map, with_fault}
use Rattle.deck_words.specs.declared.fault.LineFault.{LineFault}
use Rattle.deck_words.specs.declared.keyword.Keyword.{Keyword}
use Rattle.deck_words.specs.declared.keyword.Keyword.TheVariants.{CellVectors, HexagonalPeriodic, LatticeStructure, MaxCoord, NCellSites}
use Rattle.deck_words.specs.declared.keyword.Keyword.TheVariants.{NeighboringStructure, NSites, NSiteTypes, RectangularPeriodic, RepeatCell}
use Rattle.deck_words.specs.declared.keyword.Keyword.TheVariants.{SiteCoordinates, SiteTypeNames, SiteTypes}
use Rattle.deck_words.specs.declared.kind.TheConstants.{ROW_COUNT, UNKNOWN_LATTICE}
use Rattle.deck_words.specs.declared.table.BlockForm.{BlockForm}
use Rattle.deck_words.specs.declared.table.BlockForm.TheVariants.{DefaultChoice, PeriodicCell, Explicit}
use Rattle.lattice_cell.specs.Default.{default_lattice}
use Rattle.lattice_cell.specs.Periodic.{periodic_lattice}
use Rattle.lattice_cell.specs.declared.expand.DefaultLattice.{DefaultLattice}
use Rattle.lattice_cell.specs.declared.expand.DefaultLattice.TheVariants.{Hexagonal, Rectangular}
use Rattle.lattice_core.specs.Lattice.{Lattice}
use Rattle.lattice_deck.specs.Coordinates.{coordinates_fault}
use Rattle.lattice_deck.specs.Joins.{join_from, joins_on}
use Rattle.lattice_deck.specs.Sizes.{default_on, repeats_on}
use Rattle.lattice_deck.specs.declared.joins.JoinRow.{JoinRow}
use Rattle.lattice_deck.specs.declared.part.LatticePart.{LatticePart}
use Rattle.lattice_deck.specs.declared.sizes.Sizes.{Sizes}
use Rattle.lattice_deck.specs.declared.ranges.TheConstants.{SITE_COUNT, TYPE_COUNT}
use Rattle.site_rows.specs.Listed.{listed_lattice}
use Rattle.site_rows.specs.RowFaults.{site_rows}
use Rattle.site_rows.specs.SiteRows.{SiteRow}
use Rattle.site_rows.specs.TypeWords.{type_of}

-- the lattice, the names of the types of its sites, and the type words of the file in order
pub record LatticeValues : Type 0 where
  pub lattice : Lattice
  pub type_names : List (List ℕ)
  pub type_words : List NameWord

-- what a part of a deck says in its text
abbrev pub values_at : List ℕ → LatticePart → LatticeValues
values_at text part = record {
  lattice = part.graph;
  type_names = map (λ name. name.items) part.type_names;
  type_words = map (name_at text) part.type_words;
}

-- a default lattice of these repeats, whose one type has the name StTp1
abbrev pub default_values : DefaultLattice → ℕ × ℕ → LatticeValues
default_values named repeats = record {
  lattice = default_lattice named repeats.0 repeats.1;
  type_names = codes "StTp1" ∷ [];
  type_words = [];
}

-- the default lattice of a block: the rectangular one where it has that word, or else the hexagonal one
abbrev pub default_part : BlockLines → Result LatticeValues LineFault
default_part block =
    option_map_or (λ item. value_map (default_values Rectangular) (default_on item)) (find (has_keyword RectangularPeriodic) block.items)
    (value_map (default_values Hexagonal) (required HexagonalPeriodic block default_on))

-- how many sites a cell or a lattice has
abbrev pub sites_in : Keyword → BlockLines → Result ℕ LineFault
sites_in keyword block = required keyword block (value_on (whole_in SITE_COUNT))

-- how many site types there are
abbrev pub types_in : BlockLines → Result ℕ LineFault
types_in block = required NSiteTypes block (value_on (whole_in TYPE_COUNT))

-- the names on a line, of which there should be so many
abbrev pub names_line : Option ℕ → ItemLines → Result (List (List ℕ)) LineFault
names_line count item = value_map bytes_of (names_on count item.line.number (arguments_of item.line))

-- the names of the site types, which differ
abbrev pub type_names : BlockLines → Result (List (List ℕ)) LineFault
type_names block = with_fault (fault_of (types_in block)) (required SiteTypeNames block (names_line (result_ok (types_in block))))

-- the type words of the sites of a cell
abbrev pub type_words : Option ℕ → BlockLines → Result (List NameWord) LineFault
type_words sites block = required SiteTypes block (λ item. words_on sites item.line.number (names_of_line item))

-- the repeats of a cell
abbrev pub cell_repeats : BlockLines → Result (ℕ × ℕ) LineFault
cell_repeats block = required RepeatCell block (repeats_on (result_ok (sites_in NCellSites block)))

-- the numbers of a cell that other lines depend on, where they have no fault
abbrev pub cell_sizes : BlockLines → Sizes
cell_sizes block = record { sites = result_ok (sites_in NCellSites block); repeats = result_ok (cell_repeats block) }

-- the rows that join the sites of a cell
abbrev pub cell_joins : BlockLines → Result (List JoinRow) LineFault
cell_joins block = required NeighboringStructure block (joins_on (cell_sizes block))

-- the earliest fault of the words of a cell that are used for nothing
abbrev pub cell_unused : BlockLines → Option LineFault
cell_unused block =
    earliest (fault_in CellVectors block (coordinates_fault (Some 2)))
    (fault_in SiteCoordinates block (coordinates_fault (result_ok (sites_in NCellSites block))))

-- the values of a periodic cell, by its number of sites, repeats, type names, type words and joins
abbrev pub cell_values : (ℕ × (ℕ × ℕ)) × (List (List ℕ) × (List NameWord × List JoinRow)) → LatticeValues
cell_values cell = record {
  lattice = periodic_lattice cell.0.1.0 cell.0.1.1 (map (λ word. type_of cell.1.0 word.word.bytes) cell.1.1.0) (map join_from cell.1.1.1);
  type_names = cell.1.0;
  type_words = cell.1.1.0;
}

-- the periodic cell of a block, or the earliest of its faults
abbrev pub cell_part : BlockLines → Result LatticeValues LineFault
cell_part block =
    value_map cell_values
    (with_fault (cell_unused block)
    (both (both (sites_in NCellSites block) (cell_repeats block))
    (both (type_names block) (both (type_words (result_ok (sites_in NCellSites block)) block) (cell_joins block)))))

-- the rows of sites below a word, of which there should be so many
abbrev pub listed_on : Option ℕ → ItemLines → Result (List SiteRow) LineFault
listed_on sites item = with_fault (fault_if (has_other_length sites (length item.rows)) item.line.number ROW_COUNT) (site_rows sites item.rows)

-- the rows of sites of a lattice
abbrev pub listed_rows : Option ℕ → BlockLines → Result (List SiteRow) LineFault
listed_rows sites block = required LatticeStructure block (listed_on sites)

-- the fault of the word of an explicit lattice that is used for nothing
abbrev pub listed_unused : BlockLines → Option LineFault
listed_unused block = fault_in MaxCoord block (λ item. fault_of (value_on (whole_in ANY_WHOLE) item))

-- the values of an explicit lattice, by its number of sites, type names and rows
abbrev pub listed_values : ℕ × (List (List ℕ) × List SiteRow) → LatticeValues
listed_values listed = record {
  lattice = listed_lattice listed.0 listed.1.0 listed.1.1;
  type_names = listed.1.0;
  type_words = map (λ row. on_line row.line row.type_word) listed.1.1;
}

-- the explicit lattice of a block, or the earliest of its faults
abbrev pub listed_part : BlockLines → Result LatticeValues LineFault
listed_part block =
    value_map listed_values
    (with_fault (listed_unused block)
    (both (sites_in NSites block) (both (type_names block) (listed_rows (result_ok (sites_in NSites block)) block))))

-- the values of a block of this form; the other forms are those of no lattice
abbrev pub part_for : BlockForm → BlockLines → Result LatticeValues LineFault
part_for DefaultChoice block = default_part block
part_for PeriodicCell block = cell_part block
part_for Explicit block = listed_part block
part_for form block = Err (record { line = block.line; kind = UNKNOWN_LATTICE })

-- the values of the block of a lattice file, or the earliest of its faults
abbrev pub part_of : BlockLines → Result LatticeValues LineFault
part_of block = part_for block.form block
