use Rattle.firing.proofs.Laws.{clears_then_sets}
use Rattle.firing.proofs.firing.firing_clears_then_sets.Goals as goal

pub returns : goal.returns
returns c before after sites states can = clears_then_sets before after sites states can
