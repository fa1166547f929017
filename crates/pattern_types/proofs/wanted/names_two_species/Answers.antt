use Rattle.std.proofs.Common.{sym, ◌∙◌}
use Rattle.pattern_types.specs.Wants.{different_species}
use Rattle.pattern_types.proofs.WantsLemmas.{found_at, passed_at, none_found}
use Rattle.pattern_types.proofs.wanted.names_two_species.Goals as goal

pub returns-then-has_different_species : goal.returns-then-has_different_species
returns-then-has_different_species c =
    found_at different_species c.args.wanted.now c.loop-i.i _ c.loop-i-test.true c.loop-i.invariant (
    sym c.has_different_species.ensures ∙ c.if-has_different_species.true
    )

pub loop-i-preserved : goal.loop-i-preserved
loop-i-preserved c =
    passed_at different_species c.args.wanted.now c.loop-i.i _ c.loop-i-test.true c.loop-i.invariant (
    sym c.has_different_species.ensures ∙ c.if-has_different_species.false
    )

pub returns : goal.returns
returns c = none_found different_species c.args.wanted.now c.loop-i.i c.loop-i-test.false c.loop-i.invariant
