use Rattle.std.proofs.Common.{◌≡◌, ℕ, ◌+◌, Option, ap, subst, ◌∙◌}
use Rattle.std.specs.Prelude.{IsSomeAnd}
use Rattle.kmc_base.specs.Entries.{least}
use Rattle.kmc_core.specs.DeckSystem.{trajectory_of}
use Rattle.kmc_core.specs.Run.{time_of_first}
use Rattle.kmc_run.proofs.EventTimes.{stop_is, until_stop, until_time}
use Rattle.kmc_run.proofs.SampleLemmas.{time_is}
use Rattle.kmc_run.proofs.samples.shown_until.Goals as goal

pub returns-in-Some-default : goal.returns-in-Some-default
returns-in-Some-default c =
    let run = c.args.closed.now in
    let plan = ap (λ d. d.plan) c.deck.ensures.value in
    ap (λ n. n + 1) c.end_of_samples.ensures
    ∙ until_stop run.deck c.deck.result.now.plan run.event c.time-time.result c.in-Some-default.stop plan
    (time_is _ _ c.time-time.ensures.value)
    (stop_is run.deck c.deck.result.now.plan run.event c.event.result c.time-time.result c.next_time-next.result _ plan c.event.ensures.value
    c.time-time.ensures.value c.next_time-next.ensures c.in-Some-default.ensures)

pub returns-in-None-Some : goal.returns-in-None-Some
returns-in-None-Some c =
    let run = c.args.closed.now in
    until_time run.deck run.event c.in-None-Some.next
    (stop_is run.deck c.deck.result.now.plan run.event c.event.result c.time-time.result _ _ (ap (λ d. d.plan) c.deck.ensures.value)
    c.event.ensures.value c.time-time.ensures.value c.next_time-next.ensures c.in-None-Some.ensures)
    (subst (λ (n : Option ℕ). IsSomeAnd (trajectory_of run.deck run.event) (λ s. n ≡ time_of_first (least s.entries)))
    c.in-None-Some.is-1 c.next_time-next.ensures)
