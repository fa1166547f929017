use Rattle.std.proofs.Common.{ℕ, refl, ap, sym, ◌∙◌, ◌<◌, subst}
use Rattle.std.proofs.lemmas.Result.{err_from_is_err_and}
use Rattle.kmc_run.proofs.EventLemmas.{done_at, end_at, ended_at, passed_at, passed_end, passed_fails, passed_last, passed_none, passed_one}
use Rattle.kmc_run.proofs.EventLemmas.{passed_stops, stop_of_at}
use Rattle.kmc_run.proofs.EventTimes.{next_in_time, sampler_next, sampler_start, start_time, until-after}
use Rattle.kmc_run.proofs.driving.run_events.Goals as goal

pub loop-closed-init : goal.loop-closed-init
loop-closed-init g c =
    record {
      deck = refl;
      passed = passed_none c.args.start.deck c.args.start.event _;
      given = sampler_start c.args.start.deck c.deck.result.now _ c.args.start.event c.deck.ensures.value c.deck.ensures.sound c.requires
          c.new-sampler.ensures;
      in_time = start_time c.args.start.deck c.args.start.event c.requires;
    }

pub write_at-requires-clause-in_time : goal.write_at-requires-clause-in_time
write_at-requires-clause-in_time g c = until-after c.loop-closed.closed.deck c.loop-closed.closed.event c.loop-closed.invariant.in_time

pub returns-in_err-write_at-clause-wrote : goal.returns-in_err-write_at-clause-wrote
returns-in_err-write_at-clause-wrote g c =
    let p = err_from_is_err_and c.from_residual.result c.from_residual.ensures.1 in
    rw (p.1, p.2) (passed_fails c.args.start.deck c.args.start.event c.loop-closed.closed.event
    c.in_err-write_at.field-0.0 _ _ _ c.loop-closed.invariant.passed
    (ended_at _ _ _ _ _ _ c.loop-closed.invariant.deck c.in_err-write_at.ensures.wrote))

pub returns-in-Ended-clause-last : goal.returns-in-Ended-clause-last
returns-in-Ended-clause-last g c =
    end_at c.args.start.deck c.args.start.event c.loop-closed.closed.event c.in-Ended.last.event (sym (ap (λ r. r.event) c.in-Ended.ensures.1))
    (passed_end c.args.start.deck c.args.start.event c.loop-closed.closed.event c.in-Ended.stop _ _ c.loop-closed.invariant.passed
    (stop_of_at c.loop-closed.closed.deck c.args.start.deck c.loop-closed.closed.event _ c.loop-closed.invariant.deck c.in-Ended.ensures.0))

pub returns-in-Ended-clause-wrote : goal.returns-in-Ended-clause-wrote
returns-in-Ended-clause-wrote g c =
    passed_last c.args.start.deck c.args.start.event c.loop-closed.closed.event c.in-Ended.stop _ _ _ c.loop-closed.invariant.passed
    (done_at _ _ _ _ _ c.loop-closed.invariant.deck c.in_ok-write_at.ensures.wrote)
    (stop_of_at c.loop-closed.closed.deck c.args.start.deck c.loop-closed.closed.event _ c.loop-closed.invariant.deck c.in-Ended.ensures.0)

pub returns-in_err-closed-in-Next-clause-wrote : goal.returns-in_err-closed-in-Next-clause-wrote
returns-in_err-closed-in-Next-clause-wrote g c =
    let p = err_from_is_err_and c.from_residual-in_err-closed-in-Next.result c.from_residual-in_err-closed-in-Next.ensures.1 in
    rw (p.1, p.2) (passed_stops c.args.start.deck c.args.start.event c.loop-closed.closed.event _ _ _ c.loop-closed.invariant.passed
    (done_at _ _ _ _ _ c.loop-closed.invariant.deck c.in_ok-write_at.ensures.wrote))

pub loop-closed-preserved : goal.loop-closed-preserved
loop-closed-preserved g c =
    let next = c.in-Next.ensures in
    let closed = c.loop-closed.closed in
    let read = c.loop-closed.invariant.deck in
    let lt : closed.event < c.args.start.deck.plan.max_steps =
    subst (λ (n : ℕ). closed.event < n) (ap (λ d. d.plan.max_steps) read) next.1 in
    let event = ap (λ r. r.event) c.in_ok-closed-in-Next.ensures ∙ ap (λ r. r.event) next.2 in
    let deck = ap (λ r. r.deck) c.in_ok-closed-in-Next.ensures ∙ ap (λ r. r.deck) next.2 in
    record {
      deck = deck ∙ read;
      passed = passed_at _ _ _ _ _ _ (sym event)
          (passed_one c.args.start.deck c.args.start.event closed.event _ _ _
          c.loop-closed.invariant.passed
          (done_at _ _ _ _ _ read c.in_ok-write_at.ensures.wrote)
          (stop_of_at closed.deck c.args.start.deck closed.event _ read next.0) lt);
      given = sampler_next closed.deck _ _ closed.event _ deck event next.0 c.in_ok-write_at.ensures.given;
      in_time = next_in_time closed.deck _ closed.event _ deck event next.0;
    }
