use Rattle.std.proofs.Common.{◌≤◌, take}
use Rattle.dec_text.specs.Decimals.{significant}
use Rattle.dec_text.specs.Significands.{Keeps}
use Rattle.dec_text.proofs.significand.significant_part.Given as goal

abbrev pub invariant-loop-byte : goal.invariant-loop-byte
invariant-loop-byte l = record {
  keeps : Keeps l.kept (significant (take l.byte-index l.mantissa));
  count : l.kept.count ≤ 18;
  dropped : l.kept.dropped ≤ l.byte-index;
}
