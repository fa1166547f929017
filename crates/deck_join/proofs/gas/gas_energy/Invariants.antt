use Rattle.std.proofs.Common.{◌≡◌, ◌*◌, ◌^◌, ◌≤◌, pos, take, unsigned_abs}
use Rattle.deck_join.proofs.GasEnergies.{sum_from}
use Rattle.deck_join.proofs.gas.gas_energy.Given as goal

-- the energy of the changes that were looked at
abbrev pub invariant-loop-change : goal.invariant-loop-change
invariant-loop-change l = record {
  sum : l.energy ≡ sum_from l.energies (pos 0) (take l.change-index l.changes);
  range : unsigned_abs l.energy ≤ l.change-index * (8 * 10 ^ 12);
}
