-- The files of a made deck, as a folder.
use Rattle.std.specs.Prelude.{ℕ, None, Some}
use Rattle.deck_maker.specs.MadeDeck.{made_energetics, made_lattice, made_mechanism, made_simulation}
use Rattle.kmc_base.specs.Files.{Files}

-- a folder with the files of a made deck and no other
abbrev pub made_folder : ℕ → Files
made_folder number = record {
  simulation = Some (made_simulation number);
  lattice = Some (made_lattice number);
  energetics = Some made_energetics;
  mechanism = Some made_mechanism;
  state = None;
}
