use Rattle.std.proofs.lemmas.Result.{err_from_is_err_and}
use Rattle.kmc_run.proofs.WroteLemmas.{each_first, each_second, each_third}
use Rattle.kmc_run.specs.Samples.{begin_writes}
use Rattle.kmc_run.proofs.heads.begin_outputs.Goals as goal

pub returns-in_err-begin_output : goal.returns-in_err-begin_output
returns-in_err-begin_output g c =
    let p = err_from_is_err_and c.from_residual.result c.from_residual.ensures.1 in
    rw (p.1, p.2) (each_first (begin_writes c.args.deck.now) _ _ _ c.in_err-begin_output.ensures)

pub returns-in_err-begin_output-2 : goal.returns-in_err-begin_output-2
returns-in_err-begin_output-2 g c =
    let p = err_from_is_err_and c.from_residual-in_err-begin_output-2.result c.from_residual-in_err-begin_output-2.ensures.1 in
    rw (p.1, p.2) (each_second (begin_writes c.args.deck.now) _ _ _ _ c.in_ok-begin_output.ensures c.in_err-begin_output-2.ensures)

pub returns : goal.returns
returns g c = each_third (begin_writes c.args.deck.now) c.begin_output-3.result _ _ _ _ c.in_ok-begin_output.ensures c.in_ok-begin_output-2.ensures c.begin_output-3.ensures
