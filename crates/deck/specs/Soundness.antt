-- When a deck is sound.
use Rattle.std.specs.Prelude.{◌≡◌, ℕ, ◌≤◌, ◌<◌, List, [], length, slice_index_or, unsigned_abs}
use Rattle.std.specs.List.{All}
use Rattle.deck.specs.declared.deck.Deck.{Deck}
use Rattle.kmc_base.specs.declared.limits.TheConstants.{MAX_DENTATES, MAX_SPECIES}
use Rattle.pattern_types.specs.declared.wanted.Wanted.{Wanted}
use Rattle.pattern_types.specs.declared.wanted.Wanted.TheVariants.{Any, Vacant, Holds}
use Rattle.rate_rules.specs.Soundness.{IsSoundChemistry}
use Rattle.rate_rules.specs.declared.chemistry.Process.{Process}
use Rattle.run_plan.specs.Soundness.{IsSoundPlan}
use Rattle.species_book.specs.Book.{Book}

-- the number of dentates of each species of a book, and 0 of what is no species of it
abbrev pub dentates_in : Book → ℕ → ℕ
dentates_in book species = slice_index_or book.dentates species 0

-- what a vertex of a cluster wants is a dentate of a species of the book, or needs no species
abbrev pub IsOfBook : Book → Wanted → Type 0
IsOfBook book Any = Unit {0}
IsOfBook book Vacant = Unit {0}
IsOfBook book (Holds entity species dentate) = (1 ≤ dentate) × (dentate ≤ dentates_in book species.0)

-- a process changes the numbers of at most 64 of so many gas species, each by at most 8 molecules
pub record HasSoundGas (gas : ℕ) (process : Process) : Type 0 where
  pub few : length process.gas_change ≤ MAX_SPECIES
  pub species : All (λ change. change.0 < gas) process.gas_change
  pub molecules : All (λ change. unsigned_abs change.1 ≤ 8) process.gas_change

-- A sound deck. No adsorbate is on the lattice at the opening so far.
pub record IsSound (deck : Deck) : Type 0 where
  pub chemistry : IsSoundChemistry (dentates_in deck.book) deck.chem
  pub plan : IsSoundPlan deck.plan
  pub clusters : All (λ cluster. All (IsOfBook deck.book) cluster.pattern.wanted) deck.chem.clusters
  pub gas : All (HasSoundGas (length deck.book.gas)) deck.chem.processes
  pub one_name_each : length deck.process_names ≡ length deck.chem.processes
  pub dentates : All (λ d. (1 ≤ d) × (d ≤ MAX_DENTATES)) deck.book.dentates
  pub opening : deck.opening ≡ []
