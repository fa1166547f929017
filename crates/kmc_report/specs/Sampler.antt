-- How far the samples of a run were given, and which is given next.
use Rattle.std.specs.Prelude.{ℕ, ◌+◌, ◌&&◌, Bool, Option, None, Some, if◌then◌else◌, nat_lt}
use Rattle.kmc_base.specs.declared.ids.OutId.{OutId}
use Rattle.kmc_base.specs.declared.ids.OutId.TheVariants.{History, Procstat, Specnum}
use Rattle.kmc_report.specs.Samples.{is_due_at, is_due_before, samples_below, sampling_of}
use Rattle.kmc_report.specs.declared.sampler.Given.{Given}
use Rattle.kmc_report.specs.declared.stop.TheConstants.{MAX_SAMPLES}
use Rattle.run_plan.specs.declared.plan.Plan.{Plan}
use Rattle.run_plan.specs.declared.plan.Sampling.{Sampling}
use Rattle.run_plan.specs.declared.plan.Sampling.TheVariants.{Off, Event, Time}

-- what a sampler is: the plan of its run, and how many samples of each output it has given
pub record SamplerState : Type 0 where
  pub plan : Plan
  pub given : Given

-- how many samples of an output were given: the number of its next one
abbrev pub given_of : Given → OutId → ℕ
given_of given History = given.history
given_of given Procstat = given.procstat
given_of given Specnum = given.specnum

-- one more sample of an output is given
abbrev pub one_more : Given → OutId → Given
one_more given History = record given { history = given.history + 1 }
one_more given Procstat = record given { procstat = given.procstat + 1 }
one_more given Specnum = record given { specnum = given.specnum + 1 }

-- the number of the next sample, where it is due and within the limit
abbrev pub next_if : Bool → ℕ → Option ℕ
next_if is_due number = if nat_lt number MAX_SAMPLES && is_due then Some number else None

-- the next sample of an output, where it is due at an event
abbrev pub next_at_event : SamplerState → OutId → ℕ → Option ℕ
next_at_event state out event =
    next_if (is_due_at (sampling_of state.plan out) event (given_of state.given out)) (given_of state.given out)

-- the next sample of an output, where it is due at a time, and that is before this one
abbrev pub next_before : SamplerState → OutId → ℕ → Option ℕ
next_before state out time =
    next_if (is_due_before (sampling_of state.plan out) time (given_of state.given out)) (given_of state.given out)

-- a sampler after a sample of an output was given, or none
abbrev pub after_giving : SamplerState → OutId → Option ℕ → SamplerState
after_giving state out None = state
after_giving state out (Some number) = record { plan = state.plan; given = one_more state.given out }

-- How many samples of an output are given before an event and its time: all those that show earlier events.
abbrev pub given_before : Sampling → ℕ → ℕ → ℕ
given_before Off event time = 0
given_before (Event period) event time = samples_below period event
given_before (Time period) event time = samples_below period time

-- none was given
abbrev pub none_given : Given
none_given = record { history = 0; procstat = 0; specnum = 0 }
