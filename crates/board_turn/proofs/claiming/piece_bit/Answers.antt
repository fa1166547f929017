use Rattle.std.proofs.Common.{arith}
use Rattle.std.proofs.lemmas.Nat.{one_shl, pow_below}
use Rattle.board_turn.proofs.claiming.piece_bit.Goals as goal

pub returns : goal.returns
returns c =
    let is = one_shl c.args.piece 64 (omega arith) in
    record { is = is; narrow = omega (arith, is, pow_below c.args.piece 48 c.requires) }
