use Rattle.std.proofs.Common.{ap, sym, ◌∙◌}
use Rattle.kmc_report.specs.Sampler.{after_giving, given_of}
use Rattle.kmc_report.specs.Samples.{event_samples, sampling_of}
use Rattle.kmc_run.proofs.SampleLemmas.{event_read, given_more, given_same, gives_at_event, gives_none, no_write, on_ok, one_write}
use Rattle.kmc_run.proofs.WroteLemmas.{wrote_as, wrote_no}
use Rattle.kmc_run.specs.Samples.{time_of}
use Rattle.kmc_run.proofs.samples.write_event_sample.Goals as goal

pub returns-in-Some-clause-wrote : goal.returns-in-Some-clause-wrote
returns-in-Some-clause-wrote g c =
    let run = c.args.closed.now in
    let sampler = c.args.sampler.now in
    let gives = gives_at_event (sampling_of sampler.plan c.args.out) (given_of sampler.given c.args.out) run.event (time_of run.deck run.event)
    c.in-Some.number c.at_event.ensures.period c.requires.given
    (event_read sampler c.args.out c.event.result run.event (sym c.in-Some.is ∙ c.at_event.ensures.value) c.event.ensures.value) in
    wrote_as _ _ c.write_sample.result _ _
    (one_write run.deck run.event c.in-Some.number c.args.out
    (sym (ap (λ p. event_samples (sampling_of p c.args.out) run.event) c.requires.plan) ∙ gives.samples))
    c.write_sample.ensures

pub returns-in-Some-clause-given : goal.returns-in-Some-clause-given
returns-in-Some-clause-given g c =
    let run = c.args.closed.now in
    let sampler = c.args.sampler.now in
    let gives = gives_at_event (sampling_of sampler.plan c.args.out) (given_of sampler.given c.args.out) run.event (time_of run.deck run.event)
    c.in-Some.number c.at_event.ensures.period c.requires.given
    (event_read sampler c.args.out c.event.result run.event (sym c.in-Some.is ∙ c.at_event.ensures.value) c.event.ensures.value) in
    on_ok c.write_sample.result _
    (c.at_event.ensures.state ∙ (ap (after_giving sampler c.args.out) c.in-Some.is
    ∙ ap (λ given. record { plan = sampler.plan; given = given }) (given_more sampler.given c.args.out _ gives.more)))

pub returns-in-None-clause-wrote : goal.returns-in-None-clause-wrote
returns-in-None-clause-wrote g c =
    let run = c.args.closed.now in
    let sampler = c.args.sampler.now in
    let gives = gives_none (sampling_of sampler.plan c.args.out) (given_of sampler.given c.args.out) run.event (time_of run.deck run.event)
    c.at_event.ensures.period c.requires.given
    (event_read sampler c.args.out c.event.result run.event (sym c.in-None.is ∙ c.at_event.ensures.value) c.event.ensures.value) in
    wrote_no _ _
    (no_write run.deck run.event c.args.out
    (sym (ap (λ p. event_samples (sampling_of p c.args.out) run.event) c.requires.plan) ∙ gives.samples))

pub returns-in-None-clause-given : goal.returns-in-None-clause-given
returns-in-None-clause-given g c =
    let run = c.args.closed.now in
    let sampler = c.args.sampler.now in
    let gives = gives_none (sampling_of sampler.plan c.args.out) (given_of sampler.given c.args.out) run.event (time_of run.deck run.event)
    c.at_event.ensures.period c.requires.given
    (event_read sampler c.args.out c.event.result run.event (sym c.in-None.is ∙ c.at_event.ensures.value) c.event.ensures.value) in
    c.at_event.ensures.state ∙ (ap (after_giving sampler c.args.out) c.in-None.is
    ∙ ap (λ given. record { plan = sampler.plan; given = given }) (given_same sampler.given c.args.out _ gives.same))
