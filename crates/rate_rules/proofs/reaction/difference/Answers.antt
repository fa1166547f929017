use Rattle.std.proofs.Common.{◌≡◌, ◌^◌, ◌≤◌, ℤ, ◌+ℤ◌, ◌-ℤ◌, unsigned_abs, ap, ◌∙◌, arith, to_z, of_z, w64, FitsSigned}
use Rattle.std.specs.Int.{w128}
use Rattle.std.proofs.lemmas.Int.{ints}
use Rattle.lattice_core.specs.Config.{state_at}
use Rattle.rate_rules.specs.Energy.{energy}
use Rattle.rate_rules.specs.Held.{held_within}
use Rattle.rate_rules.proofs.reaction.difference.Goals as goal

-- the difference that the code computes
computed : (after before from gas : ℤ) → unsigned_abs after ≤ 2 ^ 99 → unsigned_abs before ≤ 2 ^ 99 → FitsSigned w64 gas
    → from ≡ to_z w64 (of_z w64 gas)
    → to_z w128 (of_z w128 (to_z w128 (of_z w128 (to_z w128 (of_z w128 after) -ℤ to_z w128 (of_z w128 before))) +ℤ to_z w128 (of_z w128 from)))
    ≡ (after -ℤ before) +ℤ gas
computed after before from gas p q fits e = omega (arith, ints)

pub returns-clause-value : goal.returns-clause-value
returns-clause-value g c =
    let range = c.hold.ensures.range in
    let whole : to_z w128 (of_z w128 c.hold.result) ≡ c.hold.result = omega (arith, ints) in
    let after = c.in_ok-after.ensures.value ∙ ap (λ clusters. energy c.args.chem.now.graph clusters (state_at c.args.final_config.now))
    c.as_slice-clusters.ensures in
    let before = c.in_ok-before.ensures.value ∙ ap (λ clusters. energy c.args.chem.now.graph clusters (state_at c.args.initial.now))
    c.as_slice-clusters.ensures in
    whole ∙ c.hold.ensures.value
    ∙ ap (held_within (10 ^ 18)) (computed c.in_ok-after.after c.in_ok-before.before c.from.result c.args.gas
    c.in_ok-after.ensures.range c.in_ok-before.ensures.range c.ranges.gas c.from.ensures)
    ∙ ap (λ z. held_within (10 ^ 18) ((z -ℤ c.in_ok-before.before) +ℤ c.args.gas)) after
    ∙ ap (λ z. held_within (10 ^ 18)
    ((energy c.args.chem.now.graph c.args.chem.now.clusters (state_at c.args.final_config.now) -ℤ z) +ℤ c.args.gas)) before
