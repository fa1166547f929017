-- How many samples the sampler of a run has given. Not part of what is promised: no public contract cites this.
use Rattle.std.specs.Prelude.{ℕ}
use Rattle.kmc_base.specs.declared.ids.OutId.{OutId}
use Rattle.kmc_base.specs.declared.ids.OutId.TheVariants.{History, Procstat, Specnum}
use Rattle.kmc_report.specs.Sampler.{SamplerState, given_before}
use Rattle.kmc_report.specs.declared.sampler.Given.{Given}
use Rattle.run_plan.specs.declared.plan.Plan.{Plan}

-- these, with another number of an output
abbrev pub with_given : Given → OutId → ℕ → Given
with_given given History number = record given { history = number }
with_given given Procstat number = record given { procstat = number }
with_given given Specnum number = record given { specnum = number }

-- the sampler of a plan that has given all samples before an event and a time
abbrev pub given_all : Plan → ℕ → ℕ → SamplerState
given_all plan event time = record {
  plan = plan;
  given = record {
    history = given_before plan.history event time;
    procstat = given_before plan.procstat event time;
    specnum = given_before plan.specnum event time;
  };
}
