use Rattle.kmc_run.proofs.RunEvents.{runs_go_to_their_stop}
use Rattle.kmc_run.proofs.laws.runs_go_to_their_stop.Goals as goal

pub returns : goal.returns
returns c = runs_go_to_their_stop
