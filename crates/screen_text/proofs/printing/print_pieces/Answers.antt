use Rattle.std.proofs.Common.{Bor, List, ℕ, ◌++◌, ap, ◌∙◌}
use Rattle.std.proofs.lemmas.Result.{err_from_is_err_and}
use Rattle.screen_text.proofs.Prints.{front_of_piece, next_piece, took_piece}
use Rattle.screen_text.proofs.printing.print_pieces.Goals as goal

pub returns-in_err-print : goal.returns-in_err-print
returns-in_err-print g c =
    let left = c.loop-piece.invariant in
    let whole =
    next_piece (λ (piece : Bor (List ℕ)). piece.now) c.args.pieces.now c.loop-piece.piece-index _ c.as_bytes.result.now c.loop-piece-test.true
    c.as_bytes.ensures.value in
    let failed = err_from_is_err_and c.from_residual.result c.from_residual.ensures.1 in
    rw (failed.1)
    (front_of_piece left.0 c.as_bytes.result.now _ _ _ _ _ (ap (λ t. left.0 ++ t) whole ∙ left.1) left.2 c.in_err-print.ensures)

pub loop-piece-preserved : goal.loop-piece-preserved
loop-piece-preserved g c =
    let left = c.loop-piece.invariant in
    let whole =
    next_piece (λ (piece : Bor (List ℕ)). piece.now) c.args.pieces.now c.loop-piece.piece-index _ c.as_bytes.result.now c.loop-piece-test.true
    c.as_bytes.ensures.value in
    took_piece left.0 c.as_bytes.result.now _ _ _ _ _ (ap (λ t. left.0 ++ t) whole ∙ left.1) left.2 c.in_ok-print.ensures
