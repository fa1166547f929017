-- The samples of an output: sample k of period N is due at event k * N, and sample k of period D at time k * D.
use Rattle.std.specs.Prelude.{ℕ, ◌+◌, ◌-◌, ◌*◌, ◌/◌, ◌==◌, Bool, false, List, [], min, nat_lt}
use Rattle.std.specs.List.{range_with_len}
use Rattle.kmc_base.specs.declared.ids.OutId.{OutId}
use Rattle.kmc_base.specs.declared.ids.OutId.TheVariants.{History, Procstat, Specnum}
use Rattle.kmc_report.specs.declared.stop.TheConstants.{MAX_SAMPLES}
use Rattle.run_plan.specs.declared.plan.Plan.{Plan}
use Rattle.run_plan.specs.declared.plan.Sampling.{Sampling}
use Rattle.run_plan.specs.declared.plan.Sampling.TheVariants.{Off, Event, Time}

-- when an output is sampled by a plan
abbrev pub sampling_of : Plan → OutId → Sampling
sampling_of plan History = plan.history
sampling_of plan Procstat = plan.procstat
sampling_of plan Specnum = plan.specnum

-- the sample of a number is due at an event
abbrev pub is_due_at : Sampling → ℕ → ℕ → Bool
is_due_at Off event number = false
is_due_at (Event period) event number = number * period == event
is_due_at (Time period) event number = false

-- the sample of a number is due at a time, and that is before this one
abbrev pub is_due_before : Sampling → ℕ → ℕ → Bool
is_due_before Off time number = false
is_due_before (Event period) time number = false
is_due_before (Time period) time number = nat_lt (number * period) time

-- How many of the numbers 0, period, 2 * period and so on are below a bound; no output has more samples than the limit.
abbrev pub samples_below : ℕ → ℕ → ℕ
samples_below period bound = min MAX_SAMPLES ((bound + (period - 1)) / period)

-- the samples from a number on whose event or time is below a bound, in order
abbrev pub samples_from : ℕ → ℕ → ℕ → List ℕ
samples_from period number bound = range_with_len number (samples_below period bound - number)

-- the samples whose event or time is at least `first` and below `bound`, in order
abbrev pub samples_within : ℕ → ℕ → ℕ → List ℕ
samples_within period first bound = samples_from period (samples_below period first) bound

-- the event samples of an event: one, or none
abbrev pub event_samples : Sampling → ℕ → List ℕ
event_samples Off event = []
event_samples (Event period) event = samples_within period event (event + 1)
event_samples (Time period) event = []

-- the time samples that show a state that is current from a time on and until another, in order
abbrev pub time_samples : Sampling → ℕ → ℕ → List ℕ
time_samples Off time until = []
time_samples (Event period) time until = []
time_samples (Time period) time until = samples_within period time until

-- Those that are left of them, from a number on.
abbrev pub samples_left : Sampling → ℕ → ℕ → List ℕ
samples_left Off number until = []
samples_left (Event period) number until = []
samples_left (Time period) number until = samples_from period number until

-- the time of a sample that shows an event: its own time for a time sample, else that of the event
abbrev pub sample_time : Sampling → ℕ → ℕ → ℕ
sample_time Off time number = time
sample_time (Event period) time number = time
sample_time (Time period) time number = number * period
