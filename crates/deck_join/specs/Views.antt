-- What the passes have read, seen in the texts. Not part of what is promised: no public contract cites this.
use Rattle.std.specs.Prelude.{◌≤◌, ℕ, List, length, map}
use Rattle.deck_shape.specs.Blocks.{file_at}
use Rattle.energetics_deck.specs.Views.{values_at as energetics_at}
use Rattle.kmc_base.specs.declared.limits.TheConstants.{MAX_FILE_BYTES}
use Rattle.lattice_deck.specs.Parts.{values_at as lattice_at}
use Rattle.mechanism_deck.specs.Views.{step_at, values_at as mechanism_at}
use Rattle.sim_deck.specs.Values.{values_at as simulation_at}
use Rattle.sim_deck.specs.declared.part.SimPart.{SimPart}
use Rattle.deck_join.specs.Gas.{GasNumbers}
use Rattle.deck_join.specs.Names.{DeckNames}
use Rattle.deck_join.specs.Passes.{DeckLines, DeckValues, FileBytes}
use Rattle.deck_join.specs.Steps.{NamedStep, StepChanges}
use Rattle.deck_join.specs.declared.file_slices.FileSlices.{FileSlices}
use Rattle.deck_join.specs.declared.names.Names.{Names}
use Rattle.deck_join.specs.declared.parts.Parts.{Parts}
use Rattle.deck_join.specs.declared.shapes.Shapes.{Shapes}
use Rattle.deck_join.specs.declared.steps.NamedStep.{NamedStep as StepRead}
use Rattle.deck_join.specs.declared.steps.StepChanges.{StepChanges as ChangesRead}

-- the bytes of the files
abbrev pub bytes_of : FileSlices → FileBytes
bytes_of files = record {
  simulation = files.simulation.now;
  lattice = files.lattice.now;
  energetics = files.energetics.now;
  mechanism = files.mechanism.now;
}

-- no file has more bytes than it may have
pub record AreShort (files : FileSlices) : Type 0 where
  pub simulation : length files.simulation.now ≤ MAX_FILE_BYTES
  pub lattice : length files.lattice.now ≤ MAX_FILE_BYTES
  pub energetics : length files.energetics.now ≤ MAX_FILE_BYTES
  pub mechanism : length files.mechanism.now ≤ MAX_FILE_BYTES

-- the lines of the files
abbrev pub lines_at : FileBytes → Shapes → DeckLines
lines_at files shapes = record {
  simulation = file_at files.simulation shapes.simulation;
  lattice = file_at files.lattice shapes.lattice;
  energetics = file_at files.energetics shapes.energetics;
  mechanism = file_at files.mechanism shapes.mechanism;
}

-- the values of the files
abbrev pub values_at : FileBytes → Parts → DeckValues
values_at files parts = record {
  simulation = simulation_at files.simulation parts.simulation;
  lattice = lattice_at files.lattice parts.lattice;
  energetics = energetics_at files.energetics parts.energetics;
  mechanism = mechanism_at files.mechanism parts.mechanism;
}

-- what a step changes
abbrev pub changes_at : ChangesRead → StepChanges
changes_at changes = record { gas = changes.gas.items; before = changes.before.items; after = changes.after.items }

-- a step of a mechanism file and what it changes
abbrev pub named_at : List ℕ → StepRead → NamedStep
named_at text step = record { step = step_at text step.step.now; changes = changes_at step.changes }

-- some steps of a mechanism file and what they change
abbrev pub named_steps_at : List ℕ → List StepRead → List NamedStep
named_steps_at text steps = map (named_at text) steps

-- the clusters and the steps of the files
abbrev pub names_at : List ℕ → Names → DeckNames
names_at text names = record { clusters = names.clusters.items; steps = named_steps_at text names.steps.items }

-- what rates need of the gas species of a simulation file
abbrev pub gases_at : SimPart → GasNumbers
gases_at part = record { pressure = part.pressure; energies = part.gas_energies; fractions = part.gas_fractions }
