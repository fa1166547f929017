use Rattle.std.proofs.Common.{slice_index, arith, refl, subst}
use Rattle.std.proofs.lemmas.List.{take_all}
use Rattle.std.proofs.lemmas.List.Elements.{All-more}
use Rattle.std.specs.List.{All}
use Rattle.firing.specs.Soundness.{HasItsDentates, IsWholeWant}
use Rattle.pattern_types.specs.declared.wanted.Wanted.TheVariants.{Any}
use Rattle.test_parts.proofs.side.is_whole.Goals as goal

pub loop-vertex-preserved : goal.loop-vertex-preserved
loop-vertex-preserved c = record {
  whole = All-more (IsWholeWant c.args.wanted.now) c.args.wanted.now c.loop-vertex.vertex-index Any (omega arith)
      c.loop-vertex.invariant.whole (c.if-not-is_whole_at.ensures.whole refl);
  dentates = All-more (HasItsDentates (λ s. slice_index c.args.dentates.now s) c.args.wanted.now) c.args.wanted.now
      c.loop-vertex.vertex-index Any (omega arith) c.loop-vertex.invariant.dentates
      (c.if-not-is_whole_at.ensures.dentates refl);
}

pub returns-clause-whole : goal.returns-clause-whole
returns-clause-whole c = λ yes.
    subst (All (IsWholeWant c.args.wanted.now)) (take_all c.loop-vertex.vertex-index c.args.wanted.now (omega arith))
    c.loop-vertex.invariant.whole

pub returns-clause-dentates : goal.returns-clause-dentates
returns-clause-dentates c = λ yes.
    subst (All (HasItsDentates (λ s. slice_index c.args.dentates.now s) c.args.wanted.now))
    (take_all c.loop-vertex.vertex-index c.args.wanted.now (omega arith)) c.loop-vertex.invariant.dentates
