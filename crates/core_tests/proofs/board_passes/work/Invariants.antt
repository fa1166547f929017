use Rattle.board_turn.specs.Shown.{IsOf, IsIdle}
use Rattle.core_tests.proofs.board_passes.work.Given as goal

abbrev pub invariant-loop : goal.invariant-loop
invariant-loop l = record {
  own : IsOf l.board.table.shared.table_id l.board.table.shared.key l.pass.seat;
  idle : IsIdle l.pass.seat;
}
