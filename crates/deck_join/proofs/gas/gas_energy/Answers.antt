use Rattle.std.proofs.Common.{◌∙◌, ◌+ℤ◌, ◌*ℤ◌, ap, get_or, pos, refl, to_z, w64}
use Rattle.std.specs.Prelude.{slice_index_or}
use Rattle.deck_join.proofs.GasEnergies.{step_at, sum-more}
use Rattle.deck_join.specs.Gas.{GasChange}
use Rattle.deck_join.proofs.gas.gas_energy.Goals as goal

pub overflow_mul-energy : goal.overflow_mul-energy
overflow_mul-energy c =
    (step_at c.args.energies.now c.args.changes.now c.loop-change.change-index c.from-in-loop-change.result (to_z w64 c.loop-change.energy-bits)
    c.from.result c.requires.energies c.requires.changes c.loop-change-test.true c.loop-change.invariant.range c.from.ensures
    c.from-in-loop-change.ensures).product

pub overflow_add-energy : goal.overflow_add-energy
overflow_add-energy c =
    (step_at c.args.energies.now c.args.changes.now c.loop-change.change-index c.from-in-loop-change.result (to_z w64 c.loop-change.energy-bits)
    c.from.result c.requires.energies c.requires.changes c.loop-change-test.true c.loop-change.invariant.range c.from.ensures
    c.from-in-loop-change.ensures).fits

pub loop-change-preserved : goal.loop-change-preserved
loop-change-preserved c =
    let i = c.loop-change.change-index in
    let total = to_z w64 c.loop-change.energy-bits in
    let change : GasChange = get_or c.args.changes.now i (0, pos 0) in
    let more = step_at c.args.energies.now c.args.changes.now i c.from-in-loop-change.result total c.from.result c.requires.energies
    c.requires.changes c.loop-change-test.true c.loop-change.invariant.range c.from.ensures c.from-in-loop-change.ensures in
    record {
      sum = more.value
          ∙ ap (λ place. total +ℤ change.1 *ℤ slice_index_or c.args.energies.now place (pos 0)) c.from-in-loop-change.ensures
          ∙ sum-more c.args.energies.now c.args.changes.now i change (0, pos 0) total c.loop-change-test.true refl c.loop-change.invariant.sum;
      range = rw more.value more.small;
    }
