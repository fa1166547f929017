use Rattle.std.proofs.Common.{◌≡◌, ◌+◌, drop}
use Rattle.std.specs.List.{prefix_len}
use Rattle.dec_text.specs.Decimals.{is_mantissa_byte}
use Rattle.dec_text.proofs.decimal.mantissa_len.Given as goal

abbrev pub invariant-loop-i : goal.invariant-loop-i
invariant-loop-i l = l.i + prefix_len is_mantissa_byte (drop l.i l.bytes) ≡ prefix_len is_mantissa_byte l.bytes
