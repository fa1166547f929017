use Rattle.std.proofs.lemmas.Result.{err_from_is_err_and}
use Rattle.kmc_run.proofs.WroteLemmas.{each_first, each_second, each_third}
use Rattle.kmc_run.specs.Samples.{event_writes}
use Rattle.kmc_run.proofs.samples.write_event_samples.Goals as goal

pub returns-in_err-write_event_sample-clause-wrote : goal.returns-in_err-write_event_sample-clause-wrote
returns-in_err-write_event_sample-clause-wrote g c =
    let p = err_from_is_err_and c.from_residual.result c.from_residual.ensures.1 in
    rw (p.1, p.2) (each_first (event_writes c.args.closed.now.deck c.args.closed.now.event) _ _ _ c.in_err-write_event_sample.ensures.wrote)

pub returns-in_err-write_event_sample-2-clause-wrote : goal.returns-in_err-write_event_sample-2-clause-wrote
returns-in_err-write_event_sample-2-clause-wrote g c =
    let p = err_from_is_err_and c.from_residual-in_err-write_event_sample-2.result c.from_residual-in_err-write_event_sample-2.ensures.1 in
    rw (p.1, p.2) (each_second (event_writes c.args.closed.now.deck c.args.closed.now.event) _ _ _ _ c.in_ok-write_event_sample.ensures.wrote c.in_err-write_event_sample-2.ensures.wrote)

pub returns-clause-wrote : goal.returns-clause-wrote
returns-clause-wrote g c =
    each_third (event_writes c.args.closed.now.deck c.args.closed.now.event) c.write_event_sample-3.result _ _ _ _ c.in_ok-write_event_sample.ensures.wrote c.in_ok-write_event_sample-2.ensures.wrote c.write_event_sample-3.ensures.wrote
