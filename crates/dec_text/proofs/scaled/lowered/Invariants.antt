use Rattle.std.proofs.Common.{◌≡◌, ◌/◌, ◌^◌}
use Rattle.dec_text.proofs.scaled.lowered.Given as goal

abbrev pub invariant-loop : goal.invariant-loop
invariant-loop l = l.value ≡ l.digits / 10 ^ l.counter
