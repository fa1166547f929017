-- The pass over the names in the files: species and site types, which another file may have.
use Rattle.std.specs.Prelude.{List, Result, Ok}
use Rattle.deck_shape.specs.declared.fault.Fault.{Fault}
use Rattle.kmc_base.specs.declared.ids.FileId.TheVariants.{Lattice, Energetics, Mechanism}
use Rattle.lattice_deck.specs.Parts.{LatticeValues}
use Rattle.lattice_deck.specs.Types.{unknown_type}
use Rattle.rate_rules.specs.declared.chemistry.Cluster.{Cluster}
use Rattle.deck_join.specs.Answers.{and_then, in_file, unless_fault}
use Rattle.deck_join.specs.Clusters.{clusters_in}
use Rattle.deck_join.specs.Passes.{DeckValues}
use Rattle.deck_join.specs.Species.{book_of}
use Rattle.deck_join.specs.Steps.{NamedStep, steps_in}

-- each type word of a lattice file is a type of its own names
abbrev pub types_in : LatticeValues → Result (Unit {0}) Fault
types_in lattice = in_file Lattice (unless_fault (unknown_type lattice.type_names lattice.type_words))

-- the clusters and the steps of the files, with species and site types by their numbers
pub record DeckNames : Type 0 where
  pub clusters : List Cluster
  pub steps : List NamedStep

-- the clusters and the steps, or the first fault of a name
unfoldable pub names_in : DeckValues → Result DeckNames Fault
names_in values =
    let book = book_of values.simulation in
    let type_names = values.lattice.type_names in
    and_then (types_in values.lattice) (λ _.
    and_then (in_file Energetics (clusters_in book type_names values.energetics)) (λ clusters.
    and_then (in_file Mechanism (steps_in book type_names values.mechanism)) (λ steps.
    Ok (record { clusters = clusters; steps = steps }))))
