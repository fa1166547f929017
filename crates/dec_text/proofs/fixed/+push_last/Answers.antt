use Rattle.std.proofs.Common.{arith}
use Rattle.dec_text.proofs.Printing.{last_pushed}
use Rattle.dec_text.proofs.fixed.+push_last.Goals as goal

pub returns-clause-ok : goal.returns-clause-ok
returns-clause-ok t c = last_pushed _ _ _ c.args.count c.args.number (omega arith) c.in_ok-push_last.ensures.ok c.in_ok-push_digit.ensures.ok
