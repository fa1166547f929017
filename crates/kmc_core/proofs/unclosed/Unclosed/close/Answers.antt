use Rattle.std.proofs.Common.{◌≡◌, ◌^◌, ◌≤◌, ℤ, List, unsigned_abs, sym, subst, arith, to_z, of_z}
use Rattle.std.specs.Int.{w128}
use Rattle.std.proofs.lemmas.Int.{ints}
use Rattle.kmc_base.specs.declared.entry.Entry.{Entry}
use Rattle.kmc_core.proofs.Runs.{closes}
use Rattle.kmc_core.specs.Run.{IsClosedAt}
use Rattle.kmc_core.proofs.unclosed.Unclosed.close.Goals as goal

-- an energy as the code keeps it
kept : (total : ℤ) → unsigned_abs total ≤ 2 ^ 99 → to_z w128 (of_z w128 total) ≡ total
kept total small = omega (arith, ints)

pub invariant_of-result : goal.invariant_of-result
invariant_of-result c =
    let run = c.self.inside in
    let total = c.in-Some.energy in
    let closed = closes run.deck run.event run.first run.state run.lists.current run.lists.next run.energy total c.self.invariant c.in-Some.is in
    subst (λ (es : List Entry). IsClosedAt run.deck run.event (record { state = run.state; time = run.first.time; entries = es })
    (to_z w128 (of_z w128 total))) (sym c.advanced.ensures)
    (subst (IsClosedAt run.deck run.event (record { state = run.state; time = run.first.time; entries = run.lists.next }))
    (sym (kept total closed.range)) closed)
