use Rattle.kmc_core.proofs.Runs.{closed-well}
use Rattle.kmc_core.proofs.closed.Closed.next_firing.Goals as goal

pub stop_at-requires-clause-time : goal.stop_at-requires-clause-time
stop_at-requires-clause-time c = (closed-well c.self.inside.deck c.self.inside.event _ _ c.self.invariant).time
