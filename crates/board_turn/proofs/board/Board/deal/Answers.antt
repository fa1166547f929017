use Rattle.std.proofs.Common.{rules, arith}
use Rattle.board_turn.proofs.Steps.{deals}
use Rattle.board_turn.proofs.board.Board.deal.Goals as goal

pub split_seat-seat-requires : goal.split_seat-seat-requires
split_seat-seat-requires g c = let owner = c.args.owner.now in
    (search rules, search rules, deals g.B.Parts.is_patch g.B.Parts.done_set _ _ owner.seat.me.0 owner.leads (omega (arith, c.requires.number)))
