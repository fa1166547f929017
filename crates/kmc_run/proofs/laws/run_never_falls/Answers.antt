use Rattle.kmc_run.proofs.RunEvents.{run_never_falls}
use Rattle.kmc_run.proofs.laws.run_never_falls.Goals as goal

pub returns : goal.returns
returns c = run_never_falls
