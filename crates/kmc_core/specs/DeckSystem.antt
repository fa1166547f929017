-- The system of events of a deck: what a state of a run offers, and what the state is after an instance has fired.
use Rattle.std.specs.Prelude.{ℕ, ◌+◌, ℤ, pos, ◌+ℤ◌, List, length, replicate, slice_get, slice_index_or, slice_set, Option, None, Some}
use Rattle.std.specs.List.{fold}
use Rattle.deck.specs.declared.deck.Deck.{Deck}
use Rattle.lattice_core.specs.Lattice.{site_count}
use Rattle.lattice_core.specs.declared.state.State.{State}
use Rattle.lattice_core.specs.declared.state.State.TheVariants.{Vacant}
use Rattle.rate_rules.specs.System.{offers, process_of, fires as states_after}
use Rattle.rate_rules.specs.declared.chemistry.Process.{Process}
use Rattle.trajectory.specs.Trajectory.{System, Snapshot, trajectory}

-- The state of a run: the states of the sites; the molecules of each gas species that were produced since the start, less
-- those that were consumed; and how often each process has fired. The last two have no effect on what is offered.
pub record DeckState : Type 0 where
  pub states : List State
  pub gas : List ℤ
  pub counts : List ℕ

-- the numbers of molecules after one change: its number is added to that of the gas species at its place
abbrev pub changed : List ℤ → ℕ × ℤ → List ℤ
changed gas change = slice_set gas change.0 (slice_index_or gas change.0 (pos 0) +ℤ change.1)

-- the numbers of molecules after a process has fired
abbrev pub gas_after : List ℤ → Process → List ℤ
gas_after gas process = fold changed gas process.gas_change

-- the same for the process at a place, if there is one
abbrev pub gas_fired : List ℤ → Option Process → List ℤ
gas_fired gas None = gas
gas_fired gas (Some process) = gas_after gas process

-- the numbers of events after one more of the process of a number
abbrev pub counted : ℕ → List ℕ → List ℕ
counted number counts = slice_set counts number (slice_index_or counts number 0 + 1)

-- the state after the instance of a code has fired
abbrev pub fires : Deck → DeckState → ℕ → DeckState
fires deck state code = record {
  states = states_after deck.chem state.states code;
  gas = gas_fired state.gas (slice_get deck.chem.processes (process_of code));
  counts = counted (process_of code) state.counts;
}

-- the events of a deck
abbrev pub system_of : Deck → System DeckState
system_of deck = record { offers = λ state. offers deck.chem state.states; fires = fires deck }

-- at the opening every site is vacant, no gas is produced or consumed, and no process has fired
abbrev pub opening : Deck → DeckState
opening deck = record {
  states = replicate (site_count deck.chem.graph) Vacant;
  gas = replicate (length deck.book.gas) (pos 0);
  counts = replicate (length deck.chem.processes) 0;
}

-- the trajectory of the deck, if it comes to an event
abbrev pub trajectory_of : Deck → ℕ → Option (Snapshot DeckState)
trajectory_of deck event = trajectory (system_of deck) deck.plan.seed (opening deck) event
