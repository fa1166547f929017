use Rattle.std.proofs.lemmas.Result.{err_from_is_err_and}
use Rattle.kmc_run.proofs.WroteLemmas.{wrote_all}
use Rattle.kmc_run.specs.Samples.{run_writes}
use Rattle.kmc_run.proofs.driving.run_deck.Goals as goal

pub returns-in_err-last-clause-wrote : goal.returns-in_err-last-clause-wrote
returns-in_err-last-clause-wrote g c =
    let p = err_from_is_err_and c.from_residual.result c.from_residual.ensures.1 in
    rw (p.1, p.2) c.in_err-last.ensures.wrote

pub returns-in_err-summary_of-clause-wrote : goal.returns-in_err-summary_of-clause-wrote
returns-in_err-summary_of-clause-wrote g c =
    let p = err_from_is_err_and c.from_residual-in_err-summary_of.result c.from_residual-in_err-summary_of.ensures.1 in
    rw (p.1, p.2) (wrote_all (run_writes c.args.deck) _ _ c.in_ok-last.ensures.wrote)
