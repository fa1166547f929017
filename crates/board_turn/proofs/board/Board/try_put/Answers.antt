use Rattle.std.proofs.Common.{◌^◌, ◌∙◌, ap, bit_or}
use Rattle.board_turn.proofs.Puts.{put_joins, put_has}
use Rattle.board_turn.proofs.board.Board.try_put.Goals as goal

pub returns-in-Ok-answer-clause-put : goal.returns-in-Ok-answer-clause-put
returns-in-Ok-answer-clause-put g c =
    let turn = c.in-Ok.turn in
    let t = c.in-Ok.ensures in
    let e = c.give.ensures in
    let claims = c.args.pass.now.seat.me.0.claims in
    let piece = g.B.Parts.piece_of c.args.finding in
    put_joins claims turn.taker.value.me.0.known (g.B.Parts.done_set c.put-answer.new.self.parts)
    c.args.pass.now.seat.me.0.puts c.give.new.pass.seat.me.0.puts piece
    (cc (t.puts, e.had, t.same.claims, c.put-answer.ensures.same))
    (c.in-Ok-answer.ensures.done ∙ ap (λ n. bit_or n (2 ^ piece)) t.parts) (cc (e.puts, t.same.claims))
    c.requires.claimed

pub returns-in-Ok-answer-clause-has : goal.returns-in-Ok-answer-clause-has
returns-in-Ok-answer-clause-has g c =
    let t = c.in-Ok.ensures in
    let claims = c.args.pass.now.seat.me.0.claims in
    put_has claims (g.B.Parts.done_set c.in-Ok.turn.parts) (g.B.Parts.done_set c.put-answer.new.self.parts)
    c.give.new.pass.seat.me.0.puts (g.B.Parts.piece_of c.args.finding)
    c.in-Ok-answer.ensures.done (cc (c.give.ensures.puts, t.same.claims)) c.requires.claimed
