use Rattle.firing.proofs.Laws.{keeps_well_formed}
use Rattle.firing.proofs.firing.firing_keeps_well_formed.Goals as goal

pub returns : goal.returns
returns c before after sites states dentates can has well_formed = keeps_well_formed before after sites states can dentates has well_formed
