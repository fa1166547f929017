use Rattle.std.proofs.Common.{◌∙◌}
use Rattle.board_turn.proofs.Steps.{closes, ends, never_empty}
use Rattle.board_turn.proofs.board.Board.close.Goals as goal

pub unreachable-requires : goal.unreachable-requires
unreachable-requires g c =
    let owner = c.args.owner in
    let left = closes g.B.Parts.is_patch g.B.Parts.done_set c.args.self.table.shared.key owner.seat.id owner.seat.me.0
    _ _ owner.leads c.requires.all c.close_with-closed.ensures.values.2 in
    never_empty g.B.Parts.is_patch g.B.Parts.done_set c.args.self.table.shared.key owner.seat.me.0 _ _
    c.take-slot.result left c.take-slot.ensures.value c.in_default.is

pub returns-clause-patch : goal.returns-clause-patch
returns-clause-patch g c =
    let owner = c.args.owner in
    let key = c.args.self.table.shared.key in
    let left = closes g.B.Parts.is_patch g.B.Parts.done_set key owner.seat.id owner.seat.me.0 _ _ owner.leads
    c.requires.all c.close_with-closed.ensures.values.2 in
    let end = ends g.B.Parts.is_patch g.B.Parts.done_set key owner.seat.me.0 _ _ c.take-slot.result c.in-Some.parts
    c.word-claimed.result left c.take-slot.ensures.value c.in-Some.is c.word-claimed.ensures in
    end.patch

pub returns-clause-puts : goal.returns-clause-puts
returns-clause-puts g c =
    let owner = c.args.owner in
    let key = c.args.self.table.shared.key in
    let left = closes g.B.Parts.is_patch g.B.Parts.done_set key owner.seat.id owner.seat.me.0 _ _ owner.leads
    c.requires.all c.close_with-closed.ensures.values.2 in
    let end = ends g.B.Parts.is_patch g.B.Parts.done_set key owner.seat.me.0 _ _ c.take-slot.result c.in-Some.parts
    c.word-claimed.result left c.take-slot.ensures.value c.in-Some.is c.word-claimed.ensures in
    c.done-done.ensures ∙ end.puts

pub returns-clause-claimed : goal.returns-clause-claimed
returns-clause-claimed g c =
    let owner = c.args.owner in
    let key = c.args.self.table.shared.key in
    let left = closes g.B.Parts.is_patch g.B.Parts.done_set key owner.seat.id owner.seat.me.0 _ _ owner.leads
    c.requires.all c.close_with-closed.ensures.values.2 in
    let end = ends g.B.Parts.is_patch g.B.Parts.done_set key owner.seat.me.0 _ _ c.take-slot.result c.in-Some.parts
    c.word-claimed.result left c.take-slot.ensures.value c.in-Some.is c.word-claimed.ensures in
    end.claims
