-- What firing makes of a run.
use Rattle.std.specs.Prelude.{◌≡◌, ◌+◌, ◌<◌, None, Some}
use Rattle.kmc_core.specs.Run.{ClosedRun, stop_of}
use Rattle.kmc_core.specs.declared.fired.Fired.{Fired}
use Rattle.kmc_core.specs.declared.fired.Fired.TheVariants.{Next, Ended}

-- The run goes on if and only if it does not stop, and so before its greatest number of events: then it is open at the
-- next event, with the listing undone. If it stops, it ends as it was, for that reason.
abbrev pub Fires : ClosedRun → Fired → Type 0
Fires run (Next next) = (stop_of run.deck run.event ≡ None) × (run.event < run.deck.plan.max_steps)
    × (next ≡ record { deck = run.deck; event = run.event + 1; undone = 1 })
Fires run (Ended closed stop) = (stop_of run.deck run.event ≡ Some stop) × (closed ≡ run)
