-- The times of the events of a run.
use Rattle.std.specs.Prelude.{◌≡◌, ℕ, ◌+◌, ◌≤◌, Some}
use Rattle.deck.specs.declared.deck.Deck.{Deck}
use Rattle.kmc_core.specs.DeckSystem.{DeckState, trajectory_of}
use Rattle.trajectory.specs.Trajectory.{Snapshot}

-- Time never falls: no event of the deck's trajectory is before the one that precedes it.
abbrev pub TimeNeverFalls : Type 0
TimeNeverFalls = (deck : Deck) (event : ℕ) (s next : Snapshot DeckState) → trajectory_of deck event ≡ Some s
    → trajectory_of deck (event + 1) ≡ Some next → s.time ≤ next.time
