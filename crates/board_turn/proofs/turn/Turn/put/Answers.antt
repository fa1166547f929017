use Rattle.board_turn.proofs.Puts.{put_keeps, shown_key}
use Rattle.board_turn.proofs.turn.Turn.put.Goals as goal

pub put-requires : goal.put-requires
put-requires g c = let t = c.args.self.now in
    shown_key (λ key. g.B.Parts.is_patch t.parts key) (λ key. g.B.Parts.is_right key c.args.finding)
    t.taker.value.me.0.key t.shows t.patch c.requires.right

pub invariant_of-self : goal.invariant_of-self
invariant_of-self g c =
    let t = c.args.self.now in
    let e = c.put.ensures in
    let kept = put_keeps g.B.Parts.is_patch g.B.Parts.is_right g.B.Parts.done_set c.put.result t.parts c.put.new.self
    t.taker.value.me.0.key c.args.finding (g.B.Parts.piece_of c.args.finding) t.taker.value.me.0.known
    t.taker.value.me.0.claims
    e.done e.patch e.refused c.requires.right c.requires.claimed t.patch t.grows t.within in
    record { shows = t.shows; patch = kept.patch; narrow = t.narrow; grows = kept.grows; within = kept.within }
