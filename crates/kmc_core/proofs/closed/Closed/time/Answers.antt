use Rattle.kmc_core.proofs.Runs.{closed-well}
use Rattle.kmc_core.proofs.closed.Closed.time.Goals as goal

pub returns-clause-range : goal.returns-clause-range
returns-clause-range c = (closed-well c.self.inside.deck c.self.inside.event _ _ c.self.invariant).time
