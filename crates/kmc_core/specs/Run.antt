-- A run of a deck: how far its trajectory has come.
use Rattle.std.specs.Prelude.{◌≡◌, ℕ, ◌-◌, ◌*◌, ◌^◌, ◌≤◌, ℤ, unsigned_abs, List, length, Option, None, Some, option_and_then, IfSome}
use Rattle.std.specs.List.{All}
use Rattle.deck.specs.Soundness.{IsSound, dentates_in}
use Rattle.deck.specs.declared.deck.Deck.{Deck}
use Rattle.kmc_base.specs.Entries.{least}
use Rattle.kmc_base.specs.declared.entry.Entry.{Entry}
use Rattle.kmc_base.specs.declared.entry.Firing.{Firing}
use Rattle.kmc_core.specs.DeckSystem.{DeckState, system_of, trajectory_of}
use Rattle.kmc_report.specs.Stops.{stop_at}
use Rattle.kmc_report.specs.declared.stop.Stop.{Stop}
use Rattle.lattice_core.specs.Config.{IsWellFormed, state_at}
use Rattle.lattice_core.specs.declared.state.State.{State}
use Rattle.rate_rules.specs.Energy.{energy}
use Rattle.trajectory.specs.Trajectory.{Snapshot, renewed}

-- A run that is closed at an event: its deck and the event say all of it, by the deck's trajectory.
pub record ClosedRun : Type 0 where
  pub deck : Deck
  pub event : ℕ

-- A run that is open at an event, which has fired. What is undone is 1 until the instances of the new state are
-- listed, then 0.
pub record OpenRun : Type 0 where
  pub deck : Deck
  pub event : ℕ
  pub undone : ℕ

-- the time of the firing that comes first, if there is one
abbrev pub time_of_first : Option Firing → Option ℕ
time_of_first None = None
time_of_first (Some first) = Some first.time

-- whether and why the run ends at an event
abbrev pub stop_of : Deck → ℕ → Option Stop
stop_of deck event = option_and_then (λ s. stop_at deck.plan event s.time (time_of_first (least s.entries))) (trajectory_of deck event)

-- the energy of a lattice in these states by the clusters of a deck, in neV
abbrev pub energy_of : Deck → List State → ℤ
energy_of deck states = energy deck.chem.graph deck.chem.clusters (state_at states)

-- What holds of a state at an event: its adsorbates are whole, it has a number for each gas species and each process, and
-- the numbers are small, since an event has at most 64 changes of at most 8 molecules, and is one event.
pub record IsWithin (deck : Deck) (event : ℕ) (state : DeckState) : Type 0 where
  pub well_formed : IsWellFormed (dentates_in deck.book) state.states
  pub gas_species : length state.gas ≡ length deck.book.gas
  pub gas : All (λ molecules. unsigned_abs molecules ≤ 512 * event) state.gas
  pub processes : length state.counts ≡ length deck.chem.processes
  pub counts : All (λ count. count ≤ event) state.counts

-- These are the state, the time and the entries of the deck's trajectory at an event that the run may come to, and the
-- energy of the state.
pub record IsClosedAt (deck : Deck) (event : ℕ) (snapshot : Snapshot DeckState) (total : ℤ) : Type 0 where
  pub sound : IsSound deck
  pub allowed : event ≤ deck.plan.max_steps
  pub state : trajectory_of deck event ≡ Some snapshot
  pub within : IsWithin deck event snapshot.state
  pub energy : total ≡ energy_of deck snapshot.state.states
  pub range : unsigned_abs total ≤ 2 ^ 99

-- what is there of an open run once it is listed: the entries after the event, and the energy
pub record IsListedAt (deck : Deck) (event : ℕ) (first : Firing) (state : DeckState) (entries next : List Entry) (total : ℤ) : Type 0 where
  pub next_entries : next ≡ renewed deck.plan.seed event first.time (Some first.code) entries ((system_of deck).offers state)
  pub energy : total ≡ energy_of deck state.states
  pub range : unsigned_abs total ≤ 2 ^ 99

-- At an event that has fired, `first` is what came first before it, and the state is that after it. The entries are still
-- the old ones. If the energy is there, the next entries are those after the event.
pub record IsOpenAt (deck : Deck) (event : ℕ) (first : Firing) (state : DeckState) (entries next : List Entry) (total : Option ℤ)
    : Type 0 where
  pub old : Snapshot DeckState
  pub old_total : ℤ
  pub closed : IsClosedAt deck (event - 1) old old_total
  pub some : 1 ≤ event
  pub allowed : event ≤ deck.plan.max_steps
  pub old_entries : old.entries ≡ entries
  pub came_first : least entries ≡ Some first
  pub fired_state : state ≡ (system_of deck).fires old.state first.code
  pub within : IsWithin deck event state
  pub listed : IfSome total (IsListedAt deck event first state entries next)
