use Rattle.std.proofs.Common.{◌≡◌, ℕ, ◌+◌, ◌*◌, ◌≤◌, ◌==◌, ◌∙◌, ap, arith, count_by, length}
use Rattle.std.proofs.lemmas.List.FromFn.{fill_by_all}
use Rattle.std.proofs.lemmas.List.{take_all}
use Rattle.zacros_output.proofs.counting.count_homes.Goals as goal

pub returns : goal.returns
returns c =
    let classes = c.args.classes.now in
    let end : length classes ≤ c.loop-class.class-index = omega arith in
    fill_by_all (λ place. count_by (λ class. class == place * 8 + 1) classes) c.loop-class.counts.items c.args.species 0
    c.loop-class.invariant.long
    (λ place below. c.loop-class.invariant.counted place below
    ∙ ap (count_by (λ class. class == place * 8 + 1)) (take_all c.loop-class.class-index classes end))
