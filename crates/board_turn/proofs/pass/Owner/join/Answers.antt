use Rattle.std.proofs.Common.{rules, arith}
use Rattle.board_turn.proofs.Steps.{gathers, audits}
use Rattle.board_turn.proofs.pass.Owner.join.Goals as goal

pub join_seat-requires : goal.join_seat-requires
join_seat-requires g c = let owner = c.args.self.now in let pass = c.args.pass in (
  search rules,
  search rules,
  pass.empty c.requires.idle,
  search rules,
  gathers g.B.Parts.is_patch g.B.Parts.done_set _ _ owner.seat.me.0 _ pass.seat.me.0 owner.leads pass.follows
      (omega (arith, pass.numbered, pass.in_range.0)) c.requires.idle,
)

pub load-requires : goal.load-requires
load-requires g c = (search rules, search rules, audits g.B.Parts.is_patch g.B.Parts.done_set _ _ _ _)
