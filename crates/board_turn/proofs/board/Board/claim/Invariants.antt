use Rattle.std.proofs.Common.{◌≡◌, ℕ, ◌<◌}
use Rattle.std.specs.Int.{bit_at}
use Rattle.board_turn.specs.Masks.{Within}
use Rattle.board_turn.specs.Shown.{IsOf, claims_of, found_claimed, KeepsTurn}
use Rattle.board_turn.proofs.board.Board.claim.Given as goal

abbrev pub invariant-loop-piece : goal.invariant-loop-piece
invariant-loop-piece g l = record {
  own : IsOf l.self.table.shared.table_id l.self.table.shared.key l.pass.seat;
  claims : claims_of l.pass.seat ≡ claims_of l.fn.pass.seat;
  found : (q : ℕ) → q < l.piece → bit_at (found_claimed l.pass.seat) q ≡ 1;
  grows : Within (found_claimed l.fn.pass.seat) (found_claimed l.pass.seat);
  same : KeepsTurn l.fn.pass.seat l.pass.seat;
}
