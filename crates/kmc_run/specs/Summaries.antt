-- What a run comes to at its last event.
use Rattle.std.specs.Prelude.{◌≡◌, ◌≤◌, ℕ, ◌++◌, ◌∷◌, [], List, Some, IsSomeAnd}
use Rattle.deck.specs.declared.deck.Deck.{Deck}
use Rattle.kmc_base.specs.declared.limits.TheConstants.{END_OF_TIME}
use Rattle.kmc_core.specs.DeckSystem.{trajectory_of}
use Rattle.kmc_core.specs.Run.{energy_of, stop_of}
use Rattle.zacros_output.specs.Adsorbates.{adsorbates}
use Rattle.kmc_run.specs.Samples.{events_from}
use Rattle.kmc_run.specs.declared.summary.Summary.{Summary}

-- The summary is that of the last event of the deck's run: its number, why the run stops there, its time, the energy, the
-- number of adsorbates of each surface species, and the gas molecules produced since the start, less those consumed.
pub record IsSummary (deck : Deck) (summary : Summary) : Type 0 where
  pub last : (es : List ℕ) × (events_from deck 0 ≡ es ++ summary.events ∷ [])
  pub stop : stop_of deck summary.events ≡ Some summary.stop
  pub time : IsSomeAnd (trajectory_of deck summary.events) (λ s. summary.time ≡ s.time)
  pub in_time : summary.time ≤ END_OF_TIME
  pub energy : IsSomeAnd (trajectory_of deck summary.events) (λ s. summary.energy ≡ energy_of deck s.state.states)
  pub surface : IsSomeAnd (trajectory_of deck summary.events) (λ s. summary.surface ≡ adsorbates deck.book s.state.states)
  pub gas : IsSomeAnd (trajectory_of deck summary.events) (λ s. summary.gas ≡ s.state.gas)
