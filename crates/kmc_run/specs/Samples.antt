-- The events of a run, its samples, and all that it writes.
use Rattle.std.specs.Prelude.{ℕ, zero, suc, ◌+◌, ◌-◌, Bool, true, false, List, [], ◌∷◌, ◌++◌, if◌then◌else◌, is_none}
use Rattle.std.specs.List.{flat_map}
use Rattle.std.specs.Option.{option_map_or}
use Rattle.deck.specs.declared.deck.Deck.{Deck}
use Rattle.kmc_base.specs.declared.ids.OutId.{OutId}
use Rattle.kmc_base.specs.declared.ids.OutId.TheVariants.{History, Procstat, Specnum}
use Rattle.kmc_core.specs.DeckSystem.{DeckState, trajectory_of}
use Rattle.kmc_core.specs.Run.{energy_of, stop_of}
use Rattle.kmc_report.specs.Samples.{event_samples, sample_time, sampling_of, time_samples}
use Rattle.kmc_report.specs.Stops.{end_of_samples}
use Rattle.kmc_run.specs.Writes.{Write, Begin, Append}
use Rattle.run_plan.specs.declared.plan.Sampling.{Sampling}
use Rattle.run_plan.specs.declared.plan.Sampling.TheVariants.{Off, Event, Time}
use Rattle.trajectory.specs.Trajectory.{Snapshot}
use Rattle.zacros_output.specs.History.{history_head, history_piece}
use Rattle.zacros_output.specs.Procstat.{procstat_head, procstat_piece}
use Rattle.zacros_output.specs.Shown.{Shown}
use Rattle.zacros_output.specs.Specnum.{specnum_head, specnum_piece}

-- The events of a run from one on, of which at most so many follow: each next one comes where the run does not stop.
abbrev pub events_after : Deck → ℕ → ℕ → List ℕ
events_after deck zero event = event ∷ []
events_after deck (suc left) event =
    event ∷ (if is_none (stop_of deck event) then events_after deck left (event + 1) else [])

-- the events of a run from one on; it stops at its greatest number of events at the latest
abbrev pub events_from : Deck → ℕ → List ℕ
events_from deck event = events_after deck (deck.plan.max_steps - event) event

-- the time of an event, in attoseconds
abbrev pub time_of : Deck → ℕ → ℕ
time_of deck event = option_map_or (λ s. s.time) (trajectory_of deck event) 0

-- The time before which the time samples come that show an event: the time of the next event, or what follows the end of the
-- samples if the run stops.
abbrev pub shown_until : Deck → ℕ → ℕ
shown_until deck event =
    option_map_or (λ stop. end_of_samples deck.plan (time_of deck event) stop + 1) (stop_of deck event) (time_of deck (event + 1))

-- the head of an output
abbrev pub head_of : OutId → Deck → List ℕ
head_of History deck = history_head deck
head_of Procstat deck = procstat_head deck
head_of Specnum deck = specnum_head deck

-- the piece of a sample of an output, by its number and what it shows
abbrev pub piece_of : OutId → Deck → ℕ → Shown → List ℕ
piece_of History deck number shown = history_piece deck number shown
piece_of Procstat deck number shown = procstat_piece number shown
piece_of Specnum deck number shown = specnum_piece deck number shown

-- what a sample shows at a time: the state after an event
abbrev pub shown_at : Deck → ℕ → ℕ → Snapshot DeckState → Shown
shown_at deck event time s = record {
  event = event;
  time = time;
  energy = energy_of deck s.state.states;
  states = s.state.states;
  gas = s.state.gas;
  counts = s.state.counts;
}

-- the write of the sample of a number, which shows an event at the time of the sample
abbrev pub sample_write : Deck → ℕ → OutId → ℕ → List Write
sample_write deck event out number =
    option_map_or (λ s. Append out (piece_of out deck number
    (shown_at deck event (sample_time (sampling_of deck.plan out) (time_of deck event) number) s)) ∷ []) (trajectory_of deck event) []

-- the event samples of an output that show an event
abbrev pub event_writes : Deck → ℕ → OutId → List Write
event_writes deck event out = flat_map (sample_write deck event out) (event_samples (sampling_of deck.plan out) event)

-- the time samples of an output that show an event until a time
abbrev pub time_writes : Deck → ℕ → ℕ → OutId → List Write
time_writes deck event until out =
    flat_map (sample_write deck event out) (time_samples (sampling_of deck.plan out) (time_of deck event) until)

-- what is written of each output, one output after another
abbrev pub of_each : (OutId → List Write) → List Write
of_each writes = writes History ++ (writes Procstat ++ writes Specnum)

-- the writes of the samples that show an event: the event samples, and then the time samples
abbrev pub writes_at : Deck → ℕ → List Write
writes_at deck event = of_each (event_writes deck event) ++ of_each (time_writes deck event (shown_until deck event))

-- an output is sampled
abbrev pub is_sampled : Sampling → Bool
is_sampled Off = false
is_sampled (Event period) = true
is_sampled (Time period) = true

-- an output that is sampled is begun
abbrev pub begin_writes : Deck → OutId → List Write
begin_writes deck out = if is_sampled (sampling_of deck.plan out) then Begin out ∷ [] else []

-- the head of an output that is sampled
abbrev pub head_writes : Deck → OutId → List Write
head_writes deck out = if is_sampled (sampling_of deck.plan out) then Append out (head_of out deck) ∷ [] else []

-- the writes before the first event: the outputs that are sampled are begun, and then their heads are added
abbrev pub writes_before : Deck → List Write
writes_before deck = of_each (begin_writes deck) ++ of_each (head_writes deck)

-- all the writes of a run
abbrev pub run_writes : Deck → List Write
run_writes deck = writes_before deck ++ flat_map (writes_at deck) (events_from deck 0)
