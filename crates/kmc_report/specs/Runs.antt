-- The samples of a whole run, by the times of its events.
use Rattle.std.specs.Prelude.{◌≡◌, ℕ, ◌+◌, ◌*◌, ◌≤◌, ◌<◌, List, [], ◌∷◌, ◌++◌, All, IfSome, length, map, min, slice_get}
use Rattle.std.specs.List.{range_with_len}
use Rattle.std.specs.Option.{IsSomeAnd}
use Rattle.kmc_report.specs.Samples.{event_samples, time_samples}
use Rattle.kmc_report.specs.Stops.{samples_due}
use Rattle.kmc_report.specs.declared.stop.TheConstants.{MAX_SAMPLES}
use Rattle.run_plan.specs.Soundness.{IsPeriod}
use Rattle.run_plan.specs.declared.plan.Sampling.{Sampling}
use Rattle.run_plan.specs.declared.plan.Sampling.TheVariants.{Off, Event, Time}

-- a sample of an output: its number, and the event that it shows
pub record Sample : Type 0 where
  pub number : ℕ
  pub event : ℕ

-- time never falls: from a time over the times of the events after it to the end of time samples
abbrev pub NeverFalls : ℕ → List ℕ → ℕ → Type 0
NeverFalls time [] end = time ≤ end
NeverFalls time (next ∷ later) end = (time ≤ next) × NeverFalls next later end

-- samples of these numbers show an event
abbrev pub showing : ℕ → List ℕ → List Sample
showing event numbers = map (λ number. record { number = number; event = event }) numbers

-- the samples that show an event, whose state is current from its time on and until another
abbrev pub samples_of_event : Sampling → ℕ → ℕ → ℕ → List Sample
samples_of_event sampling event time until = showing event (event_samples sampling event ++ time_samples sampling time until)

-- The samples of an output from an event on, by the time of the event, the times of the events after it, and the end of time
-- samples. The state of the last event is current up to that end.
abbrev pub samples_after : Sampling → ℕ → ℕ → List ℕ → ℕ → List Sample
samples_after sampling event time [] end = samples_of_event sampling event time (end + 1)
samples_after sampling event time (next ∷ later) end =
    samples_of_event sampling event time next ++ samples_after sampling (event + 1) next later end

-- the samples of an output over a whole run: event 0 is at time 0, and these are the times of the others
abbrev pub samples_of_run : Sampling → List ℕ → ℕ → List Sample
samples_of_run sampling later end = samples_after sampling 0 0 later end

-- Each sample that is due is there once, in order: as many as are due at the last event and at the end, up to the limit.
abbrev pub EachSampleOnce : Type 0
EachSampleOnce = (sampling : Sampling) (later : List ℕ) (end : ℕ) → IsPeriod sampling → NeverFalls 0 later end →
    map (λ (sample : Sample). sample.number) (samples_of_run sampling later end)
    ≡ range_with_len 0 (min MAX_SAMPLES (samples_due sampling (length later) end))

-- A time is that of the state of an event: the event is there, not later than the time, and every later event is after it.
pub record IsCurrent (times : List ℕ) (event time : ℕ) : Type 0 where
  pub happened : IsSomeAnd (slice_get times event) (λ t. t ≤ time)
  pub not_over : (other : ℕ) → event < other → IfSome (slice_get times other) (λ t. time < t)

-- A sample at events shows the event that it is due at. A sample at times shows the event that is current at its time.
abbrev pub ShowsCurrent : Sampling → List ℕ → Sample → Type 0
ShowsCurrent Off times sample = Unit {0}
ShowsCurrent (Event period) times sample = sample.number * period ≡ sample.event
ShowsCurrent (Time period) times sample = IsCurrent times sample.event (sample.number * period)

-- each sample of a run does
abbrev pub ShownWhileCurrent : Type 0
ShownWhileCurrent = (sampling : Sampling) (later : List ℕ) (end : ℕ) → IsPeriod sampling → NeverFalls 0 later end →
    All (ShowsCurrent sampling (0 ∷ later)) (samples_of_run sampling later end)
