use Rattle.std.proofs.Common.{◌≡◌, min, take}
use Rattle.dec_text.specs.Digits.{number}
use Rattle.dec_text.specs.declared.digits.TheConstants.{CAP}
use Rattle.dec_text.proofs.digits.capped_number.Given as goal

abbrev pub invariant-loop-digit : goal.invariant-loop-digit
invariant-loop-digit l = l.value ≡ min CAP (number (take l.digit-index l.digits))
