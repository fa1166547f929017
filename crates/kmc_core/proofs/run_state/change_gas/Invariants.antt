use Rattle.std.proofs.Common.{◌≡◌, ◌+◌, ◌*◌, ◌^◌, ◌≤◌, All, take, unsigned_abs}
use Rattle.std.specs.List.{fold}
use Rattle.kmc_core.specs.DeckSystem.{changed}
use Rattle.kmc_core.proofs.run_state.change_gas.Given as goal

-- the changes that were looked at are made, and each made the numbers greater by 8 at most
abbrev pub invariant-loop-place : goal.invariant-loop-place
invariant-loop-place l = record {
  done : l.gas ≡ fold changed l.fn.gas (take l.place-index l.changes);
  small : All (λ molecules. unsigned_abs molecules ≤ 2 ^ 50 + 8 * l.place-index) l.gas;
}
