-- When a plan is sound.
use Rattle.std.specs.Prelude.{ℕ, ◌^◌, ◌≤◌, ◌<◌, IfSome}
use Rattle.kmc_base.specs.declared.limits.TheConstants.{END_OF_TIME, MAX_EVENTS}
use Rattle.run_plan.specs.declared.plan.Plan.{Plan}
use Rattle.run_plan.specs.declared.plan.Sampling.{Sampling}
use Rattle.run_plan.specs.declared.plan.Sampling.TheVariants.{Off, Event, Time}

-- a period is from 1 to 2^40 - 1 events, or from 1 to 10^30 attoseconds
abbrev pub IsPeriod : Sampling → Type 0
IsPeriod Off = Unit {0}
IsPeriod (Event n) = (1 ≤ n) × (n ≤ MAX_EVENTS)
IsPeriod (Time d) = (1 ≤ d) × (d ≤ END_OF_TIME)

-- the numbers of a plan are in their ranges
pub record IsSoundPlan (plan : Plan) : Type 0 where
  pub seed : plan.seed < 2 ^ 64
  pub max_steps : plan.max_steps ≤ MAX_EVENTS
  pub max_time : IfSome plan.max_time (λ t. t ≤ END_OF_TIME)
  pub history : IsPeriod plan.history
  pub procstat : IsPeriod plan.procstat
  pub specnum : IsPeriod plan.specnum
