use Rattle.std.proofs.Common.{ap, sym, ◌∙◌}
use Rattle.std.proofs.lemmas.Result.{err_from_is_err_and}
use Rattle.kmc_report.specs.Sampler.{after_giving}
use Rattle.kmc_run.proofs.TimeSamples.{sending_fails, sending_gave, sending_on, sending_start, sending_wrote}
use Rattle.kmc_run.proofs.samples.write_times_of.Goals as goal

pub loop-number-init : goal.loop-number-init
loop-number-init g c =
    sending_start c.args.closed.now.deck c.args.closed.now.event c.args.until c.args.out c.args.sampler.now _ c.requires.plan c.requires.given
    c.requires.until

pub loop-number-preserved : goal.loop-number-preserved
loop-number-preserved g c =
    sending_on c.args.closed.now.deck c.args.closed.now.event c.args.until c.args.out c.args.sampler.now _ c.loop-number.sampler _ _
    c.in-Some.number _ c.requires.plan c.loop-number.invariant c.before-in-loop-number.ensures.period
    (sym c.in-Some.is ∙ c.before-in-loop-number.ensures.value)
    (c.before-in-loop-number.ensures.state ∙ ap (after_giving c.loop-number.sampler c.args.out) c.in-Some.is)
    c.in_ok-write_sample.ensures

pub returns-in_err-write_sample-clause-wrote : goal.returns-in_err-write_sample-clause-wrote
returns-in_err-write_sample-clause-wrote g c =
    let p = err_from_is_err_and c.from_residual.result c.from_residual.ensures.1 in
    rw (p.1, p.2)
    (sending_fails c.args.closed.now.deck c.args.closed.now.event c.args.until c.args.out c.args.sampler.now _ c.loop-number.sampler _ _
    c.in-Some.number _ c.requires.plan c.loop-number.invariant c.before-in-loop-number.ensures.period
    (sym c.in-Some.is ∙ c.before-in-loop-number.ensures.value) c.in_err-write_sample.ensures)

pub returns-clause-wrote : goal.returns-clause-wrote
returns-clause-wrote g c =
    sending_wrote c.args.closed.now.deck c.args.closed.now.event c.args.until c.args.out c.args.sampler.now _ c.loop-number.sampler _
    c.requires.plan c.loop-number.invariant c.before-in-loop-number.ensures.period
    (sym c.in_default.is ∙ c.before-in-loop-number.ensures.value)

pub returns-clause-given : goal.returns-clause-given
returns-clause-given g c =
    sending_gave c.args.closed.now.deck c.args.closed.now.event c.args.until c.args.out c.args.sampler.now _ c.loop-number.sampler _ _
    c.requires.plan c.loop-number.invariant c.before-in-loop-number.ensures.period
    (sym c.in_default.is ∙ c.before-in-loop-number.ensures.value)
    (c.before-in-loop-number.ensures.state ∙ ap (after_giving c.loop-number.sampler c.args.out) c.in_default.is)
