-- What the values of all files without faults keep. Not part of what is promised: no public contract cites this.
use Rattle.std.specs.Prelude.{◌≡◌, ◌<◌, ◌≤◌, ◌⊎◌, ℕ, [], List, Option, length, map, sum, unsigned_abs}
use Rattle.std.specs.List.{All, AllByRecursion}
use Rattle.deck.specs.Soundness.{IsOfBook, dentates_in}
use Rattle.deck_join.specs.Gas.{GasChange}
use Rattle.deck_join.specs.Names.{DeckNames}
use Rattle.deck_join.specs.Passes.{DeckValues}
use Rattle.deck_join.specs.Steps.{NamedStep}
use Rattle.deck_shape.specs.Names.{NameWord}
use Rattle.energetics_deck.specs.Soundness.{IsSoundPart as IsSoundEnergetics}
use Rattle.firing.specs.Soundness.{HasItsDentates, IsWholeWant}
use Rattle.kmc_base.specs.declared.limits.TheConstants.{MAX_ENERGY, MAX_SPECIES}
use Rattle.lattice_core.specs.Lattice.{IsLattice}
use Rattle.mechanism_deck.specs.Parts.{directions}
use Rattle.mechanism_deck.specs.Soundness.{AreInRange, IsSoundPart as IsSoundMechanism}
use Rattle.mechanism_deck.specs.Steps.{StepValues}
use Rattle.pattern_types.specs.Parts.{parts}
use Rattle.pattern_types.specs.Soundness.{IsSound as IsPattern}
use Rattle.pattern_types.specs.declared.limits.TheConstants.{MAX_CLUSTERS, MAX_PROCESSES}
use Rattle.pattern_types.specs.declared.wanted.Wanted.{Wanted}
use Rattle.rate_rules.specs.Soundness.{IsSoundCluster}
use Rattle.rate_rules.specs.declared.chemistry.Cluster.{Cluster}
use Rattle.sim_deck.specs.Soundness.{IsSoundPart as IsSoundSimulation}
use Rattle.sim_deck.specs.declared.part.SimPart.{SimPart}
use Rattle.site_rows.specs.declared.type_word.TheConstants.{MAX_SITE_TYPES}
use Rattle.species_book.specs.Book.{Book}

-- the values of each file keep what its reader promises
pub record AreSoundValues (values : DeckValues) : Type 0 where
  pub simulation : IsSoundSimulation values.simulation
  pub lattice : IsLattice values.lattice.lattice
  pub few_types : length values.lattice.type_names ≤ MAX_SITE_TYPES
  pub energetics : IsSoundEnergetics values.energetics
  pub mechanism : IsSoundMechanism values.mechanism

-- edges and what is wanted of so many sites make a pattern, whatever site types it asks for, and it asks for one of each
-- site or for none
pub record IsPatternFor (sites : ℕ) (edges : List (ℕ × ℕ)) (words : List NameWord) (wanted : List Wanted) : Type 0 where
  pub pattern : (types : List (Option ℕ)) → length types ≡ sites → IsPattern (parts edges types wanted)
  pub types : (words ≡ []) ⊎ (length words ≡ sites)

-- the clusters of a deck are sound, and want dentates that the species of a book have
pub record AreSoundClusters (book : Book) (clusters : List Cluster) : Type 0 where
  pub few : length clusters ≤ MAX_CLUSTERS
  pub shares : AllByRecursion IsSoundCluster clusters
  pub dentates : AllByRecursion (λ cluster. All (IsOfBook book) cluster.pattern.wanted) clusters

-- the changes of a step are of at most 64 of so many gas species, each by at most 8 molecules
pub record AreSoundChanges (gas : ℕ) (changes : List GasChange) : Type 0 where
  pub few : length changes ≤ MAX_SPECIES
  pub species : All (λ change. change.0 < gas) changes
  pub molecules : All (λ change. unsigned_abs change.1 ≤ 8) changes

-- the gas species have an energy and a molar fraction each
pub record AreGases (part : SimPart) : Type 0 where
  pub one_energy_each : length part.gas_energies ≡ length part.gas
  pub energies : All (λ e. unsigned_abs e ≤ unsigned_abs MAX_ENERGY) part.gas_energies
  pub one_fraction_each : length part.gas_fractions ≡ length part.gas

-- a side of a step makes a pattern
abbrev pub IsSideOf : StepValues → List Wanted → Type 0
IsSideOf step wanted = IsPatternFor step.body.sites step.body.edges step.variant.types wanted

-- a step changes some of so many gas species, and its sides make patterns
pub record IsSoundStep (gases : ℕ) (step : NamedStep) : Type 0 where
  pub gas : AreSoundChanges gases step.changes.gas
  pub before : IsSideOf step.step step.changes.before
  pub after : IsSideOf step.step step.changes.after

-- each adsorbate of a side is there as a whole, with the dentates of its species
pub record AreWhole (book : Book) (wanted : List Wanted) : Type 0 where
  pub whole : All (IsWholeWant wanted) wanted
  pub dentates : All (HasItsDentates (dentates_in book) wanted) wanted

-- the sides of a step have whole adsorbates, and its numbers are in their ranges
pub record IsWholeStep (book : Book) (step : NamedStep) : Type 0 where
  pub before : AreWhole book step.changes.before
  pub after : AreWhole book step.changes.after
  pub numbers : AreInRange step.step.variant

-- the clusters and the steps of a deck are sound, and the steps are at most 1,024 processes
pub record AreSoundNames (book : Book) (names : DeckNames) : Type 0 where
  pub clusters : AreSoundClusters book names.clusters
  pub steps : AllByRecursion (IsSoundStep (length book.gas)) names.steps
  pub whole : AllByRecursion (IsWholeStep book) names.steps
  pub few : sum (map (λ step. directions step.step.body.reversible) names.steps) ≤ MAX_PROCESSES
