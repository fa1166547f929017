-- The samples of a run of a deck, and what they are of all that the run writes.
use Rattle.std.specs.Prelude.{◌≡◌, ℕ, ◌+◌, ◌<◌, ◌≤◌, Bool, true, false, List, ◌++◌, None, IsSome, All, drop, length, map, min}
use Rattle.std.specs.List.{filter, flat_map, range_with_len}
use Rattle.std.specs.Option.{option_map_or}
use Rattle.deck.specs.Soundness.{IsSound}
use Rattle.deck.specs.declared.deck.Deck.{Deck}
use Rattle.kmc_base.specs.declared.ids.OutId.{OutId}
use Rattle.kmc_base.specs.declared.ids.OutId.TheVariants.{History, Procstat, Specnum}
use Rattle.kmc_core.specs.DeckSystem.{trajectory_of}
use Rattle.kmc_core.specs.Run.{stop_of}
use Rattle.kmc_report.specs.Runs.{NeverFalls, Sample, ShowsCurrent, samples_of_run}
use Rattle.kmc_report.specs.Samples.{sampling_of}
use Rattle.kmc_report.specs.Stops.{end_of_samples, samples_due}
use Rattle.kmc_report.specs.declared.stop.TheConstants.{MAX_SAMPLES}
use Rattle.kmc_run.specs.Ends.{last_event}
use Rattle.kmc_run.specs.Samples.{begin_writes, events_from, head_writes, run_writes, sample_write, time_of}
use Rattle.kmc_run.specs.Writes.{Write, target_of}

-- two outputs are the same
abbrev pub is_same : OutId → OutId → Bool
is_same History History = true
is_same Procstat Procstat = true
is_same Specnum Specnum = true
is_same one other = false

-- the writes to an output, in order
abbrev pub writes_to : OutId → List Write → List Write
writes_to out writes = filter (λ write. is_same (target_of write) out) writes

-- the times of the events of a run, in order
abbrev pub event_times : Deck → List ℕ
event_times deck = map (time_of deck) (events_from deck 0)

-- the times of the events after event 0
abbrev pub later_times : Deck → List ℕ
later_times deck = drop 1 (event_times deck)

-- the end of the time samples of a run, by its last event and why it stops there
abbrev pub end_of_run : Deck → ℕ
end_of_run deck =
    option_map_or (λ stop. end_of_samples deck.plan (time_of deck (last_event deck)) stop) (stop_of deck (last_event deck)) 0

-- the samples of an output over a run, each by its number and the event that it shows
abbrev pub run_samples : Deck → OutId → List Sample
run_samples deck out = samples_of_run (sampling_of deck.plan out) (later_times deck) (end_of_run deck)

-- what is written of a sample of an output
abbrev pub written_of : Deck → OutId → Sample → List Write
written_of deck out sample = sample_write deck sample.event out sample.number

-- The events of a run are 0, 1, 2 and so on, up to the first at which it stops, and its trajectory comes to each of them.
pub record GoesToItsStop (deck : Deck) : Type 0 where
  pub events : events_from deck 0 ≡ range_with_len 0 (last_event deck + 1)
  pub there : (event : ℕ) → event ≤ last_event deck → IsSome (trajectory_of deck event)
  pub goes_on : (event : ℕ) → event < last_event deck → stop_of deck event ≡ None
  pub stops : IsSome (stop_of deck (last_event deck))

-- every run does
abbrev pub RunsGoToTheirStop : Type 0
RunsGoToTheirStop = (deck : Deck) → GoesToItsStop deck

-- The times of a run never fall, from time 0 up to the end of its time samples.
abbrev pub RunNeverFalls : Type 0
RunNeverFalls = (deck : Deck) → NeverFalls 0 (later_times deck) (end_of_run deck)

-- What a run writes to an output: if it is sampled, it is begun and its head is added; then come the samples of the run.
abbrev pub WritesItsSamples : Type 0
WritesItsSamples = (deck : Deck) (out : OutId) →
    writes_to out (run_writes deck)
    ≡ begin_writes deck out ++ (head_writes deck out ++ flat_map (written_of deck out) (run_samples deck out))

-- The samples of an output of a run are those that are due: they have the numbers 0, 1, 2 and so on, as many as are due at the
-- last event and at the end of the time samples, up to the limit. Each of them shows what is current at its time, and is one write.
pub record HasSamplesDue (deck : Deck) (out : OutId) : Type 0 where
  pub numbers : map (λ (sample : Sample). sample.number) (run_samples deck out)
      ≡ range_with_len 0 (min MAX_SAMPLES (samples_due (sampling_of deck.plan out) (last_event deck) (end_of_run deck)))
  pub current : All (ShowsCurrent (sampling_of deck.plan out) (event_times deck)) (run_samples deck out)
  pub written : All (λ (sample : Sample). length (written_of deck out sample) ≡ 1) (run_samples deck out)

-- each output of a sound deck does
abbrev pub SamplesAreDue : Type 0
SamplesAreDue = (deck : Deck) (out : OutId) → IsSound deck → HasSamplesDue deck out
