use Rattle.std.proofs.Common.{◌≡◌, ℤ, unsigned_abs, ap, ◌∙◌, arith, to_z, of_z}
use Rattle.std.specs.Int.{w128}
use Rattle.std.proofs.lemmas.Int.{ints}
use Rattle.lattice_core.specs.Config.{state_at}
use Rattle.lattice_core.specs.SiteList.{site_numbers}
use Rattle.rate_rules.specs.Barrier.{barrier_of}
use Rattle.rate_rules.specs.Rate.{lg_rate}
use Rattle.rate_rules.specs.Reaction.{reaction_energy}
use Rattle.rate_rules.proofs.instance_rate.whole_rate.Goals as goal

pub returns-clause-value : goal.returns-clause-value
returns-clause-value g c =
    let process = c.args.process.now in
    let rate = λ (e : ℤ). lg_rate process.factor (unsigned_abs e) c.args.chem.now.temperature in
    let small = c.in_ok-d.ensures.range in
    let small0 = c.in_ok-d0.ensures.range in
    let d : to_z w128 (of_z w128 c.in_ok-d.d) ≡ c.in_ok-d.d = omega (arith, ints) in
    let d0 : to_z w128 (of_z w128 c.in_ok-d0.d0) ≡ c.in_ok-d0.d0 = omega (arith, ints) in
    let high = c.barrier.ensures.high in
    let low = c.barrier.ensures.low in
    let e : to_z w128 (of_z w128 c.barrier.result) ≡ c.barrier.result = omega (arith, ints) in
    c.lg_rate.ensures.value
    ∙ ap rate (e ∙ c.barrier.ensures.value)
    ∙ ap (λ x. rate (barrier_of process x (to_z w128 (of_z w128 c.in_ok-d0.d0)))) (d ∙ c.in_ok-d.ensures.value)
    ∙ ap (λ x. rate (barrier_of process
    (reaction_energy c.args.chem.now (state_at c.args.config.now) process (site_numbers c.args.placement.now)) x)) (d0 ∙ c.in_ok-d0.ensures.value)
