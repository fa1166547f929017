use Rattle.std.proofs.Common.{◌≡◌, ◌+◌, length, vec_len}
use Rattle.std.specs.Prelude.{All}
use Rattle.board_turn.specs.Shown.{IsOf, IsIdle, joined_numbers, next_number}
use Rattle.core_tests.proofs.board_passes.threads_put_each_piece.Given as goal

abbrev pub invariant-loop-pass : goal.invariant-loop-pass
invariant-loop-pass g l = record {
  own : IsOf l.board.table.shared.table_id l.board.table.shared.key l.owner.seat;
  count : length (joined_numbers l.owner.seat) + vec_len l.passes + 1 ≡ next_number l.owner.seat;
  passes : All (λ pass. IsOf l.board.table.shared.table_id l.board.table.shared.key pass.seat × IsIdle pass.seat) l.passes.items;
}

abbrev pub decreases-loop-pass : goal.decreases-loop-pass
decreases-loop-pass g l = vec_len l.passes
