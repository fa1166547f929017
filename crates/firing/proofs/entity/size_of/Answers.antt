use Rattle.std.proofs.Common.{◌≡◌, ℕ, ◌+◌, ◌-◌, ◌<◌, ◌∙◌, length, take, ap, arith, subst, sym}
use Rattle.std.specs.List.{count_by}
use Rattle.std.proofs.lemmas.List.Sums.{count_by_more_no, count_by_more_yes}
use Rattle.firing.specs.Entities.{is_of}
use Rattle.firing.proofs.Wants.{want_read}
use Rattle.pattern_types.specs.declared.wanted.Wanted.TheVariants.{Any}
use Rattle.firing.proofs.entity.size_of.Goals as goal
use Rattle.firing.proofs.entity.size_of.Goals.{then-is_of, else-is_of}

pub loop-vertex-preserved : goal.loop-vertex-preserved
loop-vertex-preserved c =
    let k = c.loop-vertex.vertex - 1 in
    let wanted = c.args.side.now.wanted in
    let test = is_of c.args.entity in
    let within : k < length wanted = omega (arith, c.len-vertex-end.ensures.value) in
    let next : k + 1 ≡ c.loop-vertex.vertex + 1 - 1 = omega arith in
    let here = ap test (want_read wanted k c.wanted.result c.wanted.ensures) ∙ sym c.is_of.ensures in
    subst (λ (n : ℕ). c.if-is_of.size ≡ count_by test (take n wanted)) next
    (elim c.if-is_of.branch [
      | then-is_of w ↦ w.size-is ∙ ap (λ n. n + 1) c.loop-vertex.invariant
          ∙ sym (count_by_more_yes test wanted k Any within (here ∙ w.if-is_of.true))
      | else-is_of w ↦ w.size-is ∙ c.loop-vertex.invariant ∙ sym (count_by_more_no test wanted k Any within (here ∙ w.if-is_of.false))
    ])
