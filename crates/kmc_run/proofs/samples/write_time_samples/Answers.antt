use Rattle.std.proofs.lemmas.Result.{err_from_is_err_and}
use Rattle.kmc_run.proofs.WroteLemmas.{each_first, each_second, each_third}
use Rattle.kmc_run.specs.Samples.{time_writes}
use Rattle.kmc_run.proofs.samples.write_time_samples.Goals as goal

pub returns-in_err-write_times_of-clause-wrote : goal.returns-in_err-write_times_of-clause-wrote
returns-in_err-write_times_of-clause-wrote g c =
    let p = err_from_is_err_and c.from_residual.result c.from_residual.ensures.1 in
    rw (p.1, p.2) (each_first (time_writes c.args.closed.now.deck c.args.closed.now.event c.args.until) _ _ _ c.in_err-write_times_of.ensures.wrote)

pub returns-in_err-write_times_of-2-clause-wrote : goal.returns-in_err-write_times_of-2-clause-wrote
returns-in_err-write_times_of-2-clause-wrote g c =
    let p = err_from_is_err_and c.from_residual-in_err-write_times_of-2.result c.from_residual-in_err-write_times_of-2.ensures.1 in
    rw (p.1, p.2) (each_second (time_writes c.args.closed.now.deck c.args.closed.now.event c.args.until) _ _ _ _ c.in_ok-write_times_of.ensures.wrote c.in_err-write_times_of-2.ensures.wrote)

pub returns-clause-wrote : goal.returns-clause-wrote
returns-clause-wrote g c =
    each_third (time_writes c.args.closed.now.deck c.args.closed.now.event c.args.until) c.write_times_of-3.result _ _ _ _ c.in_ok-write_times_of.ensures.wrote c.in_ok-write_times_of-2.ensures.wrote c.write_times_of-3.ensures.wrote
