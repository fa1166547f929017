-- The first three passes over the files of a deck: their bytes, their lines, and their values. Each gives what it found in
-- every file, or the fault of the first file that has one.
use Rattle.std.specs.Prelude.{ℕ, List, Result, Ok, Err}
use Rattle.deck_shape.specs.Blocks.{FileLines}
use Rattle.deck_shape.specs.LineFaults.{file_of_text}
use Rattle.deck_shape.specs.Reading.{first_block}
use Rattle.deck_shape.specs.declared.fault.Fault.{Fault}
use Rattle.deck_words.specs.declared.kind.TheConstants.{FILE_ABSENT, FILE_TOO_LONG}
use Rattle.energetics_deck.specs.Parts.{EnergeticsValues, part_of as energetics_part_of}
use Rattle.kmc_base.specs.declared.ids.FileId.{FileId}
use Rattle.kmc_base.specs.declared.ids.FileId.TheVariants.{Simulation, Lattice, Energetics, Mechanism}
use Rattle.lattice_deck.specs.Parts.{LatticeValues, part_of as lattice_part_of}
use Rattle.mechanism_deck.specs.Parts.{MechanismValues, part_of as mechanism_part_of}
use Rattle.sim_deck.specs.Values.{SimValues, part_of as simulation_part_of}
use Rattle.deck_join.specs.Answers.{and_then, file_fault, in_file}
use Rattle.deck_join.specs.Texts.{Texts}
use Rattle.deck_join.specs.declared.text.Text.{Text}
use Rattle.deck_join.specs.declared.text.Text.TheVariants.{Absent, TooLong, Bytes}

-- the bytes of the files
pub record FileBytes : Type 0 where
  pub simulation : List ℕ
  pub lattice : List ℕ
  pub energetics : List ℕ
  pub mechanism : List ℕ

-- the bytes of a text that is there and is not too long
abbrev pub bytes_in : FileId → Text → Result (List ℕ) Fault
bytes_in file Absent = Err (file_fault file FILE_ABSENT)
bytes_in file TooLong = Err (file_fault file FILE_TOO_LONG)
bytes_in file (Bytes bytes) = Ok bytes

-- the bytes of the files, or the fault of the first that is absent or too long
unfoldable pub files_in : Texts → Result FileBytes Fault
files_in texts =
    and_then (bytes_in Simulation texts.simulation) (λ simulation.
    and_then (bytes_in Lattice texts.lattice) (λ lattice.
    and_then (bytes_in Energetics texts.energetics) (λ energetics.
    and_then (bytes_in Mechanism texts.mechanism) (λ mechanism.
    Ok (record { simulation = simulation; lattice = lattice; energetics = energetics; mechanism = mechanism })))))

-- the lines of a file by its blocks, or its first fault of form
abbrev pub blocks_in : FileId → List ℕ → Result FileLines Fault
blocks_in file bytes = in_file file (file_of_text (first_block file) bytes)

-- the lines of the files by their blocks
pub record DeckLines : Type 0 where
  pub simulation : FileLines
  pub lattice : FileLines
  pub energetics : FileLines
  pub mechanism : FileLines

-- the lines of the files, or the first fault of form
unfoldable pub lines_in : FileBytes → Result DeckLines Fault
lines_in files =
    and_then (blocks_in Simulation files.simulation) (λ simulation.
    and_then (blocks_in Lattice files.lattice) (λ lattice.
    and_then (blocks_in Energetics files.energetics) (λ energetics.
    and_then (blocks_in Mechanism files.mechanism) (λ mechanism.
    Ok (record { simulation = simulation; lattice = lattice; energetics = energetics; mechanism = mechanism })))))

-- the values of the files
pub record DeckValues : Type 0 where
  pub simulation : SimValues
  pub lattice : LatticeValues
  pub energetics : EnergeticsValues
  pub mechanism : MechanismValues

-- the values of the files, or the first fault of a value
unfoldable pub values_in : DeckLines → Result DeckValues Fault
values_in lines =
    and_then (in_file Simulation (simulation_part_of lines.simulation.block)) (λ simulation.
    and_then (in_file Lattice (lattice_part_of lines.lattice.block)) (λ lattice.
    and_then (in_file Energetics (energetics_part_of lines.energetics)) (λ energetics.
    and_then (in_file Mechanism (mechanism_part_of lines.mechanism)) (λ mechanism.
    Ok (record { simulation = simulation; lattice = lattice; energetics = energetics; mechanism = mechanism })))))
