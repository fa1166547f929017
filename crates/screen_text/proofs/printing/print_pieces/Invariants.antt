use Rattle.std.proofs.Common.{◌≡◌, List, ℕ, ◌++◌, drop}
use Rattle.std.specs.List.{flat_map}
use Rattle.screen_text.specs.Printing.{TookAll, screen_by}
use Rattle.screen_text.proofs.printing.print_pieces.Given as goal

-- the pieces so far are taken, and with those that are left they are all
abbrev pub invariant-loop-piece : goal.invariant-loop-piece
invariant-loop-piece g l =
    let seen = screen_by g.S.Sink.faults g.S.Sink.taken in
    (done : List ℕ) × (done ++ flat_map (λ piece. piece.now) (drop l.piece-index l.pieces) ≡ flat_map (λ piece. piece.now) l.pieces)
    × TookAll done (seen l.fn.screen) (seen l.screen)
