use Rattle.std.proofs.Common.{slice_index, List, ap, refl, subst, sym}
use Rattle.std.specs.List.{All}
use Rattle.firing.specs.Soundness.{HasItsDentates, IsWholeWant}
use Rattle.pattern_types.specs.declared.wanted.Wanted.{Wanted}
use Rattle.test_parts.proofs.side.whole_side.Goals as goal

pub returns-clause-sound : goal.returns-clause-sound
returns-clause-sound c = record {
  pattern = c.len.ensures.sound;
  whole = subst (λ (wanted : List Wanted). All (IsWholeWant wanted) wanted)
      (sym (ap (λ p. p.wanted) c.in-Ok.ensures.pattern))
      (c.if-not-is_whole.ensures.whole refl);
}

pub returns-clause-dentates : goal.returns-clause-dentates
returns-clause-dentates c =
    subst (λ (wanted : List Wanted). All (HasItsDentates (λ s. slice_index c.args.dentates.now s) wanted) wanted)
    (sym (ap (λ p. p.wanted) c.in-Ok.ensures.pattern))
    (c.if-not-is_whole.ensures.dentates refl)
