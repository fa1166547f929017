use Rattle.std.proofs.Common.{[], ◌∷◌, subst, sym}
use Rattle.atomic_table.specs.Table.{opening}
use Rattle.board_turn.specs.Rule.{Orderly}
use Rattle.board_turn.specs.Views.{first_owner}
use Rattle.board_turn.proofs.Steps.{begins}
use Rattle.board_turn.proofs.board.Board.lay.Goals as goal

pub new-requires : goal.new-requires
new-requires g c = let key = c.args.key.now in
    subst (λ xs. Orderly g.B.Parts.is_patch g.B.Parts.done_set key (opening (0 ∷ 0 ∷ []) xs (first_owner key))) (sym c.in_ok-slots.ensures.slot)
    (begins g.B.Parts.is_patch g.B.Parts.done_set key c.args.parts c.requires.patch c.requires.undone)
