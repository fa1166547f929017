-- The species of the simulation file: how many there are, and the lists that have a member for each.
use Rattle.std.specs.Prelude.{ℕ, ℤ, List, [], map, Option, Result, Ok}
use Rattle.std.specs.Result.{result_err, result_ok}
use Rattle.dec_text.specs.Decimals.{Scientific}
use Rattle.deck_shape.specs.BlockValues.{line_value_or, one, value_or}
use Rattle.deck_shape.specs.Blocks.{BlockLines, ItemLines}
use Rattle.deck_shape.specs.LineWords.{arguments_of}
use Rattle.deck_shape.specs.Names.{NameWord, on_line}
use Rattle.deck_shape.specs.WordLines.{words_of}
use Rattle.deck_values.specs.Lists.{absent_list, list_on}
use Rattle.deck_values.specs.Names.{species_on}
use Rattle.deck_values.specs.Numbers.{any_decimal, scaled_in, up_to, whole_in}
use Rattle.deck_values.specs.declared.number.TheConstants.{ENERGY}
use Rattle.deck_words.specs.Faults.{both, value_map, with_fault}
use Rattle.deck_words.specs.declared.fault.LineFault.{LineFault}
use Rattle.deck_words.specs.declared.keyword.Keyword.{Keyword}
use Rattle.deck_words.specs.declared.keyword.Keyword.TheVariants.{GasEnergies, GasMolarFracs, GasMolecWeights, GasSpecsNames, NGasSpecies}
use Rattle.deck_words.specs.declared.keyword.Keyword.TheVariants.{NSurfSpecies, SurfSpecsDent, SurfSpecsNames}
use Rattle.sim_deck.specs.declared.ranges.TheConstants.{DENTATES, FRACTION, SPECIES_COUNT}

-- a number of species; 0 where the file does not state it
abbrev pub count_in : Keyword → BlockLines → Result ℕ LineFault
count_in keyword block = value_or (Ok 0) (one (whole_in SPECIES_COUNT)) keyword block.items

-- the names of species, on their line
abbrev pub names_on : Option ℕ → ItemLines → Result (List NameWord) LineFault
names_on count item = value_map (map (on_line item.line.number)) (species_on count item.line.number (arguments_of item.line))

-- a name for each of so many species
abbrev pub names_in : Option ℕ → Keyword → BlockLines → Result (List NameWord) LineFault
names_in count keyword block = line_value_or (absent_list count block.end_line) (names_on count) keyword block.items

-- a list of numbers, or the other one where it is absent
abbrev pub list_or : {X : Type 0} → Result (List X) LineFault → (List ℕ → Result X ℕ) → Option ℕ → Keyword → BlockLines → Result (List X) LineFault
list_or absent read count keyword block =
    line_value_or absent (λ item. list_on read count item.line.number (words_of item)) keyword block.items

-- a number for each of so many species
abbrev pub numbers_in : {X : Type 0} → (List ℕ → Result X ℕ) → Option ℕ → Keyword → BlockLines → Result (List X) LineFault
numbers_in read count keyword block = list_or (absent_list count block.end_line) read count keyword block

-- the gas species: their names, their energies in neV, which are written in eV, and their molar fractions
pub record GasValues : Type 0 where
  pub names : List NameWord
  pub energies : List ℤ
  pub fractions : List Scientific

-- the gas species of three lists
abbrev pub gas_with : Result (List NameWord) LineFault → Result (List ℤ) LineFault → Result (List Scientific) LineFault → Result GasValues LineFault
gas_with names energies fractions =
    value_map (λ lists. record { names = lists.0.0; energies = lists.0.1; fractions = lists.1 }) (both (both names energies) fractions)

-- the lists of so many gas species
abbrev pub gas_lists : Option ℕ → BlockLines → Result GasValues LineFault
gas_lists count block =
    gas_with
    (names_in count GasSpecsNames block)
    (numbers_in (scaled_in ENERGY) count GasEnergies block)
    (numbers_in (up_to FRACTION.power) count GasMolarFracs block)

-- the molecular weights, which are used for nothing
abbrev pub weights_in : Option ℕ → BlockLines → Result (List Scientific) LineFault
weights_in count block = list_or (Ok []) any_decimal count GasMolecWeights block

-- the gas species of the file
abbrev pub gas_in : BlockLines → Result GasValues LineFault
gas_in block =
    let count = count_in NGasSpecies block in
    with_fault (result_err count) (with_fault (result_err (weights_in (result_ok count) block)) (gas_lists (result_ok count) block))

-- the surface species: their names, and how many dentates each has
pub record SurfaceValues : Type 0 where
  pub names : List NameWord
  pub dentates : List ℕ

-- the surface species of two lists
abbrev pub surface_with : Result (List NameWord) LineFault → Result (List ℕ) LineFault → Result SurfaceValues LineFault
surface_with names dentates = value_map (λ lists. record { names = lists.0; dentates = lists.1 }) (both names dentates)

-- the lists of so many surface species
abbrev pub surface_lists : Option ℕ → BlockLines → Result SurfaceValues LineFault
surface_lists count block = surface_with (names_in count SurfSpecsNames block) (numbers_in (whole_in DENTATES) count SurfSpecsDent block)

-- the surface species of the file
abbrev pub surface_in : BlockLines → Result SurfaceValues LineFault
surface_in block = let count = count_in NSurfSpecies block in with_fault (result_err count) (surface_lists (result_ok count) block)
