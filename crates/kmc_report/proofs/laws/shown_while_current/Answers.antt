use Rattle.kmc_report.proofs.RunSamples.{shown_while_current}
use Rattle.kmc_report.proofs.laws.shown_while_current.Goals as goal

pub returns : goal.returns
returns c = shown_while_current
