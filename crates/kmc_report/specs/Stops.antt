-- When a run stops, and to what time it is sampled.
use Rattle.std.specs.Prelude.{ℕ, ◌+◌, ◌/◌, ◌==◌, ◌||◌, Bool, Option, None, Some, if◌then◌else◌, nat_le, nat_lt, unwrap_or}
use Rattle.kmc_base.specs.declared.limits.TheConstants.{END_OF_TIME}
use Rattle.kmc_report.specs.declared.stop.Stop.{Stop}
use Rattle.kmc_report.specs.declared.stop.TheConstants.{MAX_SAMPLES}
use Rattle.kmc_report.specs.declared.stop.Stop.TheVariants.{Samples, Steps, Still, Horizon}
use Rattle.run_plan.specs.declared.plan.Plan.{Plan}
use Rattle.run_plan.specs.declared.plan.Sampling.{Sampling}
use Rattle.run_plan.specs.declared.plan.Sampling.TheVariants.{Off, Event, Time}

-- how many samples of an output are due at an event and its time
abbrev pub samples_due : Sampling → ℕ → ℕ → ℕ
samples_due Off event time = 0
samples_due (Event period) event time = event / period + 1
samples_due (Time period) event time = time / period + 1

-- an output has as many samples as it may have
abbrev pub is_full : Sampling → ℕ → ℕ → Bool
is_full sampling event time = nat_le MAX_SAMPLES (samples_due sampling event time)

-- some output has
abbrev pub some_output_is_full : Plan → ℕ → ℕ → Bool
some_output_is_full plan event time =
    is_full plan.history event time || is_full plan.procstat event time || is_full plan.specnum event time

-- the greatest time of a run: max_time of the deck, or the end of time if it is infinity
abbrev pub end_of_time : Plan → ℕ
end_of_time plan = unwrap_or plan.max_time END_OF_TIME

-- why the run goes no further: no instance has a time, or the least time is after the greatest time
abbrev pub stop_before : Plan → Option ℕ → Option Stop
stop_before plan None = Some Still
stop_before plan (Some least) = if nat_lt (end_of_time plan) least then Some Horizon else None

-- Whether and why a run stops after an event, by the event's time and by the least time of the entries: the first
-- that holds of the four reasons.
abbrev pub stop_at : Plan → ℕ → ℕ → Option ℕ → Option Stop
stop_at plan event time least =
    if some_output_is_full plan event time
    then Some Samples
    else (if event == plan.max_steps then Some Steps else stop_before plan least)

-- The last time at which time samples are taken: max_time of the deck where nothing fires before it, unless it is infinity;
-- else the time of the last event.
abbrev pub end_of_samples : Plan → ℕ → Stop → ℕ
end_of_samples plan time Samples = time
end_of_samples plan time Steps = time
end_of_samples plan time Still = unwrap_or plan.max_time time
end_of_samples plan time Horizon = unwrap_or plan.max_time time
