use Rattle.std.proofs.lemmas.Result.{err_from_is_err_and}
use Rattle.kmc_run.proofs.WroteLemmas.{broke_first, wrote_then}
use Rattle.kmc_run.specs.Samples.{event_writes, of_each, shown_until, time_writes}
use Rattle.kmc_run.proofs.samples.write_at.Goals as goal

pub returns-in_err-write_event_samples-clause-wrote : goal.returns-in_err-write_event_samples-clause-wrote
returns-in_err-write_event_samples-clause-wrote g c =
    let p = err_from_is_err_and c.from_residual.result c.from_residual.ensures.1 in
    let run = c.args.closed.now in
    rw (p.1, p.2)
    (broke_first (of_each (event_writes run.deck run.event)) (of_each (time_writes run.deck run.event (shown_until run.deck run.event))) _ _ _
    c.in_err-write_event_samples.ensures.wrote)

pub returns-clause-wrote : goal.returns-clause-wrote
returns-clause-wrote g c =
    let run = c.args.closed.now in
    wrote_then (of_each (event_writes run.deck run.event)) (of_each (time_writes run.deck run.event (shown_until run.deck run.event)))
    c.write_time_samples.result _ _ _ c.in_ok-write_event_samples.ensures.wrote
    (rw c.shown_until-until.ensures at c.write_time_samples.ensures.wrote)
