use Rattle.kmc_run.proofs.EventTimes.{next_time}
use Rattle.kmc_run.proofs.samples.next_time.Goals as goal

pub returns-in-Some : goal.returns-in-Some
returns-in-Some c = next_time _ _ c.in-Some.ensures

pub returns-in-None : goal.returns-in-None
returns-in-None c = next_time _ _ c.in-None.ensures
