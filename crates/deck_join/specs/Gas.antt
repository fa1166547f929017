-- Gas species in the steps of a mechanism file, by their numbers in the simulation file.
use Rattle.std.specs.Prelude.{ℕ, ℤ, pos, ◌+ℤ◌, ◌*ℤ◌, neg_ℤ, false, List, map, Result, Ok, Err, if◌then◌else◌, slice_index_or, unsigned_abs}
use Rattle.std.specs.Int.{is_negative}
use Rattle.std.specs.List.{fold}
use Rattle.std.specs.Option.{option_map_or}
use Rattle.dec_text.specs.Decimals.{Scientific}
use Rattle.deck_words.specs.Faults.{all_of}
use Rattle.deck_words.specs.declared.fault.LineFault.{LineFault}
use Rattle.deck_words.specs.declared.kind.TheConstants.{UNKNOWN_GAS}
use Rattle.mechanism_deck.specs.Changes.{GasWords}
use Rattle.sim_deck.specs.Values.{SimValues}
use Rattle.species_book.specs.Book.{Book, place_of}

-- a gas species by its place in the simulation file, from 0, and by how much its number of molecules changes
abbrev pub GasChange : Type 0
GasChange = ℕ × ℤ

-- a name of no gas species
abbrev pub gas_fault : ℕ → LineFault
gas_fault line = record { line = line; kind = UNKNOWN_GAS }

-- a change, with its gas species by its place, or the fault of its name
abbrev pub change_in : Book → GasWords → Result GasChange LineFault
change_in book gas = option_map_or (λ place. Ok (place, gas.1)) (place_of book.gas gas.0.word.bytes) (Err (gas_fault gas.0.line))

-- the changes of a step, or the earliest of their faults
abbrev pub changes_in : Book → List GasWords → Result (List GasChange) LineFault
changes_in book gas = all_of (map (change_in book) gas)

-- what rates need of the gas species: the pressure, and the energy in neV and the molar fraction of each
pub record GasNumbers : Type 0 where
  pub pressure : Scientific
  pub energies : List ℤ
  pub fractions : List Scientific

-- those of a simulation file
abbrev pub gases_of : SimValues → GasNumbers
gases_of values = record { pressure = values.pressure; energies = values.gas_energies; fractions = values.gas_fractions }

-- the changes of the reverse of a step
abbrev pub reversed : List GasChange → List GasChange
reversed changes = map (λ change. (change.0, neg_ℤ change.1)) changes

-- the energy of the molecules that a step produces, less that of those that it consumes, by the energy of each gas species
abbrev pub gas_energy : List ℤ → List GasChange → ℤ
gas_energy energies changes = fold (λ energy change. energy +ℤ change.1 *ℤ slice_index_or energies change.0 (pos 0)) (pos 0) changes

-- how many molecules a change consumes
abbrev pub molecules_consumed : ℤ → ℕ
molecules_consumed change = if is_negative change then unsigned_abs change else 0

-- the decimal 0
abbrev pub nothing : Scientific
nothing = record { negative = false; digits = 0; power = pos 0 }

-- of each gas species that changes its molar fraction, and how many molecules of it are consumed
abbrev pub consumed_of : List Scientific → List GasChange → List (Scientific × ℕ)
consumed_of fractions changes = map (λ change. (slice_index_or fractions change.0 nothing, molecules_consumed change.1)) changes
