use Rattle.std.proofs.Common.{arith}
use Rattle.dec_text.proofs.Printing.{whole_digit, whole_pushed}
use Rattle.dec_text.proofs.fixed.+push_whole.Goals as goal
use Rattle.dec_text.proofs.fixed.+push_whole.Goals.{then-number-ge10+in_ok-push_whole, else-number-ge10}

pub returns-clause-ok : goal.returns-clause-ok
returns-clause-ok t c =
    elim c.if-number-ge10.branch [
      | then-number-ge10+in_ok-push_whole w ↦
          whole_pushed _ _ _ c.args.number w.if-number-ge10.true (omega arith)
          (rw w.out-is w.in_ok-push_whole.ensures.ok) c.in_ok-push_digit.ensures.ok
      | else-number-ge10 w ↦ whole_digit _ _ c.args.number w.if-number-ge10.false (rw w.out-is at c.in_ok-push_digit.ensures.ok)
    ]
