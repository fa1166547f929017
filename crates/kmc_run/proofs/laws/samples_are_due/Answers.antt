use Rattle.kmc_run.proofs.SamplesAreDue.{samples_are_due}
use Rattle.kmc_run.proofs.laws.samples_are_due.Goals as goal

pub returns : goal.returns
returns c = samples_are_due
