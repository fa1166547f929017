use Rattle.std.proofs.Common.{◌≡◌}
use Rattle.board_turn.specs.Shown.{IsOf, IsIdle, claims_of}
use Rattle.core_tests.proofs.board_passes.put.Given as goal

abbrev pub invariant-loop : goal.invariant-loop
invariant-loop l = record {
  own : IsOf l.board.table.shared.table_id l.board.table.shared.key l.pass.seat;
  idle : IsIdle l.pass.seat;
  claims : claims_of l.pass.seat ≡ claims_of l.fn.pass.seat;
}
