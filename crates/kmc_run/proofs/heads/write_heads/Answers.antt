use Rattle.std.proofs.lemmas.Result.{err_from_is_err_and}
use Rattle.kmc_run.proofs.WroteLemmas.{each_first, each_second, each_third}
use Rattle.kmc_run.specs.Samples.{head_writes}
use Rattle.kmc_run.proofs.heads.write_heads.Goals as goal

pub returns-in_err-write_head : goal.returns-in_err-write_head
returns-in_err-write_head g c =
    let p = err_from_is_err_and c.from_residual.result c.from_residual.ensures.1 in
    rw (p.1, p.2) (each_first (head_writes c.args.deck.now) _ _ _ c.in_err-write_head.ensures)

pub returns-in_err-write_head-2 : goal.returns-in_err-write_head-2
returns-in_err-write_head-2 g c =
    let p = err_from_is_err_and c.from_residual-in_err-write_head-2.result c.from_residual-in_err-write_head-2.ensures.1 in
    rw (p.1, p.2) (each_second (head_writes c.args.deck.now) _ _ _ _ c.in_ok-write_head.ensures c.in_err-write_head-2.ensures)

pub returns : goal.returns
returns g c = each_third (head_writes c.args.deck.now) c.write_head-3.result _ _ _ _ c.in_ok-write_head.ensures c.in_ok-write_head-2.ensures c.write_head-3.ensures
