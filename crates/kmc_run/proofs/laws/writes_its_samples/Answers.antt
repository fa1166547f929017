use Rattle.kmc_run.proofs.WritesTo.{writes_its_samples}
use Rattle.kmc_run.proofs.laws.writes_its_samples.Goals as goal

pub returns : goal.returns
returns c = writes_its_samples
