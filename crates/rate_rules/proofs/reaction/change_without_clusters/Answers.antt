use Rattle.std.proofs.Common.{◌≡◌, ◌*◌, ◌^◌, ◌≤◌, ℤ, ◌+ℤ◌, ◌-ℤ◌, pos, unsigned_abs, ap, sym, ◌∙◌, arith, to_z, of_z, w64}
use Rattle.std.specs.Int.{w128}
use Rattle.std.proofs.lemmas.Int.{ints}
use Rattle.rate_rules.specs.Energy.{energy}
use Rattle.rate_rules.specs.Held.{held_within}
use Rattle.rate_rules.proofs.EnergySums.{no-energy}
use Rattle.rate_rules.proofs.reaction.change_without_clusters.Goals as goal

-- the energy of the gas, as the code widens it
widened : (from gas : ℤ) → unsigned_abs gas ≤ 512 * 10 ^ 12 → from ≡ to_z w64 (of_z w64 gas) → to_z w128 (of_z w128 from) ≡ gas
widened from gas small is = omega (arith, ints)

pub returns-clause-value : goal.returns-clause-value
returns-clause-value c initial final =
    let lattice = c.args.chem.now.graph in
    let clusters = c.args.chem.now.clusters in
    let gas = c.args.process.now.gas in
    let range = c.hold.ensures.range in
    let whole : to_z w128 (of_z w128 c.hold.result) ≡ c.hold.result = omega (arith, ints) in
    let none : (pos 0 -ℤ pos 0) +ℤ gas ≡ gas = omega (arith, ints) in
    whole ∙ c.hold.ensures.value
    ∙ ap (held_within (10 ^ 18)) (widened c.from.result gas c.requires.process.gas c.from.ensures)
    ∙ sym (ap (λ z. held_within (10 ^ 18) ((z -ℤ energy lattice clusters initial) +ℤ gas)) (no-energy lattice clusters final c.requires.none)
    ∙ ap (λ z. held_within (10 ^ 18) ((pos 0 -ℤ z) +ℤ gas)) (no-energy lattice clusters initial c.requires.none)
    ∙ ap (held_within (10 ^ 18)) none)
