-- the bits so far, and then those of what is left, are the bits of the whole; what is left is a mantissa
use Rattle.std.proofs.Common.{◌≡◌, ◌+◌, ◌^◌, ◌<◌, ◌≤◌}
use Rattle.fixed_math.specs.Logarithm.{fraction_bits}
use Rattle.fixed_math.proofs.logarithm.bits_of.Given as goal

abbrev pub invariant-loop-place : goal.invariant-loop-place
invariant-loop-place l = record {
  low : 2 ^ 31 ≤ l.rest;
  high : l.rest < 2 ^ 32;
  whole : l.bits + fraction_bits l.place l.rest ≡ fraction_bits 30 l.mantissa;
}
