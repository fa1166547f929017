-- The deck that the texts of its files give, or their first fault: that of the earliest pass that has one in any file.
use Rattle.std.specs.Prelude.{[], List, Result, Ok}
use Rattle.deck.specs.declared.deck.Deck.{Deck}
use Rattle.deck_shape.specs.declared.fault.Fault.{Fault}
use Rattle.kmc_base.specs.Files.{Files}
use Rattle.rate_rules.specs.Soundness.{radius_of}
use Rattle.rate_rules.specs.declared.chemistry.Chemistry.{Chemistry}
use Rattle.rate_rules.specs.declared.chemistry.Cluster.{Cluster}
use Rattle.rate_rules.specs.declared.chemistry.Process.{Process}
use Rattle.deck_join.specs.Answers.{and_then}
use Rattle.deck_join.specs.Gas.{gases_of}
use Rattle.deck_join.specs.Names.{DeckNames, names_in}
use Rattle.deck_join.specs.Passes.{DeckValues, files_in, lines_in, values_in}
use Rattle.deck_join.specs.ProcessNames.{names_of}
use Rattle.deck_join.specs.Processes.{processes_of}
use Rattle.deck_join.specs.Species.{book_of}
use Rattle.deck_join.specs.Texts.{Texts, texts_of}

-- the chemistry of the lattice and the temperature of the files, with these processes and clusters
abbrev pub chemistry_with : DeckValues → List Process → List Cluster → Chemistry
chemistry_with values processes clusters = record {
  graph = values.lattice.lattice;
  processes = processes;
  clusters = clusters;
  temperature = values.simulation.temperature;
  radius = radius_of processes clusters;
}

-- the deck of the values of its files, and of their clusters and steps; no adsorbate is on the lattice at the opening
abbrev pub deck_with : DeckValues → DeckNames → Deck
deck_with values names = record {
  chem = chemistry_with values (processes_of (gases_of values.simulation) values.lattice.type_names names.steps) names.clusters;
  plan = values.simulation.plan;
  book = book_of values.simulation;
  process_names = names_of names.steps;
  opening = [];
}

-- the deck of the values of its files, or the first fault of a name
unfoldable pub joined : DeckValues → Result Deck Fault
joined values = and_then (names_in values) (λ names. Ok (deck_with values names))

-- The deck of the texts of its files, or their first fault. The passes are, in order: whether the files are there and not
-- too long; the form of their lines; their values; and their names.
unfoldable pub deck_of : Texts → Result Deck Fault
deck_of texts =
    and_then (files_in texts) (λ files.
    and_then (lines_in files) (λ lines.
    and_then (values_in lines) joined))

-- the deck of the files of a folder
abbrev pub deck_of_files : Files → Result Deck Fault
deck_of_files files = deck_of (texts_of files)
