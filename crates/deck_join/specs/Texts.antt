-- The texts of the input files.
use Rattle.std.specs.Prelude.{ℕ, ◌∷◌, [], List, Option, None, Some, if◌then◌else◌, length, nat_le, slice_get, ◌≤◌}
use Rattle.std.specs.Option.{option_map_or}
use Rattle.kmc_base.specs.Files.{Files, file_of}
use Rattle.kmc_base.specs.declared.ids.FileId.{FileId}
use Rattle.kmc_base.specs.declared.ids.FileId.TheVariants.{Simulation, Lattice, Energetics, Mechanism}
use Rattle.kmc_base.specs.declared.limits.TheConstants.{MAX_FILE_BYTES}
use Rattle.deck_join.specs.declared.text.Text.{Text}
use Rattle.deck_join.specs.declared.text.Text.TheVariants.{Absent, TooLong, Bytes}

-- the files of a deck, in the order in which they are loaded
abbrev pub deck_files : List FileId
deck_files = Simulation ∷ Lattice ∷ Energetics ∷ Mechanism ∷ []

-- the texts of the files of a deck
pub record Texts : Type 0 where
  pub simulation : Text
  pub lattice : Text
  pub energetics : Text
  pub mechanism : Text

-- the text at a place of a list
abbrev pub text_at : ℕ → List (FileId × Text) → Text
text_at place texts = option_map_or (λ text. text.1) (slice_get texts place) Absent

-- the texts of a list that has those of the files of a deck in order
abbrev pub texts_in : List (FileId × Text) → Texts
texts_in texts = record {
  simulation = text_at 0 texts;
  lattice = text_at 1 texts;
  energetics = text_at 2 texts;
  mechanism = text_at 3 texts;
}

-- the text that a file has by its bytes, where there is a file
abbrev pub text_with : Option (List ℕ) → Text
text_with None = Absent
text_with (Some bytes) = if nat_le (length bytes) MAX_FILE_BYTES then Bytes bytes else TooLong

-- the text of a file of a folder
abbrev pub text_of : Files → FileId → Text
text_of files file = text_with (file_of files file)

-- the texts of the files of a deck in a folder
abbrev pub texts_of : Files → Texts
texts_of files = record {
  simulation = text_of files Simulation;
  lattice = text_of files Lattice;
  energetics = text_of files Energetics;
  mechanism = text_of files Mechanism;
}

-- a text has no more bytes than it may have
abbrev pub IsShort : Text → Type 0
IsShort Absent = Unit {0}
IsShort TooLong = Unit {0}
IsShort (Bytes bytes) = length bytes ≤ MAX_FILE_BYTES
