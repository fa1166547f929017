use Rattle.std.proofs.Common.{sym, ◌∙◌}
use Rattle.pattern_types.specs.Wants.{same_dentate}
use Rattle.pattern_types.proofs.WantsLemmas.{found_at, passed_at, none_found}
use Rattle.pattern_types.proofs.wanted.names_dentate_twice.Goals as goal

pub returns-then-has_same_dentate : goal.returns-then-has_same_dentate
returns-then-has_same_dentate c =
    found_at same_dentate c.args.wanted.now c.loop-i.i _ c.loop-i-test.true c.loop-i.invariant (
    sym c.has_same_dentate.ensures ∙ c.if-has_same_dentate.true
    )

pub loop-i-preserved : goal.loop-i-preserved
loop-i-preserved c =
    passed_at same_dentate c.args.wanted.now c.loop-i.i _ c.loop-i-test.true c.loop-i.invariant (
    sym c.has_same_dentate.ensures ∙ c.if-has_same_dentate.false
    )

pub returns : goal.returns
returns c = none_found same_dentate c.args.wanted.now c.loop-i.i c.loop-i-test.false c.loop-i.invariant
