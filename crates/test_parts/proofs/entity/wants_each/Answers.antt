use Rattle.std.proofs.Common.{◌≡◌, ℕ, ◌+◌, Contains, arith, inl, inr, refl, subst}
use Rattle.std.proofs.lemmas.Bool.{cases_lt}
use Rattle.pattern_types.specs.declared.wanted.Wanted.TheVariants.{Holds}
use Rattle.test_parts.proofs.entity.wants_each.Goals as goal

pub loop-place-preserved : goal.loop-place-preserved
loop-place-preserved c = λ d some few.
    elim (cases_lt d (c.loop-place.place + 1)) [
      | inl before ↦ c.loop-place.invariant d some (omega arith)
      | inr now ↦
          let same : c.loop-place.place + 1 ≡ d = omega arith in
          subst (λ (n : ℕ). Contains c.args.wanted.now (Holds c.args.entity c.args.species n)) same (c.if-not-wants.ensures refl)
    ]
