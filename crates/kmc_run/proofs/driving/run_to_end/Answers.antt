use Rattle.std.proofs.Common.{◌≡◌, ℕ, List, [], ◌∷◌, ◌++◌, IfOk, ap, subst, ◌∙◌}
use Rattle.std.proofs.lemmas.Result.{err_from_is_err_and}
use Rattle.kmc_core.specs.Run.{ClosedRun}
use Rattle.kmc_run.proofs.DriveLemmas.{before_fails, events_wrote}
use Rattle.kmc_run.proofs.WroteLemmas.{broke_none}
use Rattle.kmc_run.specs.Samples.{events_from, run_writes}
use Rattle.kmc_run.proofs.driving.run_to_end.Goals as goal

pub returns-in-Err-clause-wrote : goal.returns-in-Err-clause-wrote
returns-in-Err-clause-wrote g c = broke_none (run_writes c.args.deck) _

pub returns-in_err-write_before-clause-wrote : goal.returns-in_err-write_before-clause-wrote
returns-in_err-write_before-clause-wrote g c =
    let p = err_from_is_err_and c.from_residual.result c.from_residual.ensures.1 in
    rw (p.1, p.2) (before_fails c.deck.result.now c.args.deck c.in_err-write_before.field-0.0 _ _
    (c.deck.ensures.value ∙ ap (λ r. r.deck) c.in-Ok.ensures.ok) c.in_err-write_before.ensures)

pub returns-clause-last : goal.returns-clause-last
returns-clause-last g c =
    subst (λ (r : ClosedRun). IfOk c.run_events.result (λ last. (es : List ℕ) × (events_from r.deck r.event ≡ es ++ last.0.event ∷ [])))
    c.in-Ok.ensures.ok c.run_events.ensures.last

pub returns-clause-wrote : goal.returns-clause-wrote
returns-clause-wrote g c =
    events_wrote c.deck.result.now c.args.deck c.in-Ok.start c.run_events.result _ _ _
    (c.deck.ensures.value ∙ ap (λ r. r.deck) c.in-Ok.ensures.ok) c.in-Ok.ensures.ok c.in_ok-write_before.ensures c.run_events.ensures.wrote
