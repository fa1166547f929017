use Rattle.std.proofs.Common.{◌≡◌, ◌*◌, ◌^◌, min}
use Rattle.dec_text.specs.declared.scaled.TheConstants.{PAST}
use Rattle.dec_text.proofs.scaled.raised.Given as goal

abbrev pub invariant-loop : goal.invariant-loop
invariant-loop l = l.value ≡ min PAST (l.digits * 10 ^ l.counter)
