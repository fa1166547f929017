use Rattle.std.proofs.lemmas.Result.{err_from_is_err_and}
use Rattle.kmc_run.proofs.WroteLemmas.{broke_first, wrote_then}
use Rattle.kmc_run.specs.Samples.{begin_writes, head_writes, of_each}
use Rattle.kmc_run.proofs.heads.write_before.Goals as goal

pub returns-in_err-begin_outputs : goal.returns-in_err-begin_outputs
returns-in_err-begin_outputs g c =
    let p = err_from_is_err_and c.from_residual.result c.from_residual.ensures.1 in
    let deck = c.args.deck.now in
    rw (p.1, p.2) (broke_first (of_each (begin_writes deck)) (of_each (head_writes deck)) _ _ _ c.in_err-begin_outputs.ensures)

pub returns : goal.returns
returns g c =
    let deck = c.args.deck.now in
    wrote_then (of_each (begin_writes deck)) (of_each (head_writes deck)) c.write_heads.result _ _ _ c.in_ok-begin_outputs.ensures
    c.write_heads.ensures
