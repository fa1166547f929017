use Rattle.std.proofs.Common.{length}
use Rattle.deck_join.specs.SoundValues.{IsSoundStep}
use Rattle.deck_join.specs.Views.{named_at}
use Rattle.pattern_names.proofs.Members.{member}
use Rattle.deck_join.proofs.processes.processes_of.Goals as goal

pub with_step-requires-clause-step : goal.with_step-requires-clause-step
with_step-requires-clause-step c =
    member (IsSoundStep (length c.args.simulation.now.gas)) (named_at c.args.bytes.now) c.args.steps.now c.loop-step.step-index
    c.step-item.result c.loop-step-test.true c.step-item.is c.requires.steps
