use Rattle.kmc_core.proofs.TimesNeverFall.{next-event}
use Rattle.kmc_core.proofs.laws.time_never_falls.Goals as goal

pub returns : goal.returns
returns c = next-event
