-- One more bit is found in each round, by the lemmas on the loop's step.
use Rattle.std.proofs.Common.{arith}
use Rattle.fixed_math.proofs.LogarithmLemmas.{fraction_bits-lt, halved_is_mantissa, one_placed, all_placed}
use Rattle.fixed_math.proofs.logarithm.bits_of.Goals as goal

pub overflow_add-bits : goal.overflow_add-bits
overflow_add-bits c =
    let whole = one_placed c.loop-place.bits c.loop-place.rest c.next_bit-bit.result c.loop-place.place _
    (omega arith) (omega arith) c.next_bit-bit.ensures c.loop-place.invariant.whole in
    omega (arith, whole, fraction_bits-lt 30 c.args.mantissa)

pub loop-place-preserved : goal.loop-place-preserved
loop-place-preserved c =
    let again = halved_is_mantissa c.loop-place.rest c.next_bit-bit.result c.loop-place.invariant.low
    c.loop-place.invariant.high c.next_bit-bit.ensures in
    record {
      low = again.0;
      high = again.1;
      whole = one_placed c.loop-place.bits c.loop-place.rest c.next_bit-bit.result c.loop-place.place _ (omega arith)
          (omega arith) c.next_bit-bit.ensures c.loop-place.invariant.whole;
    }

pub returns : goal.returns
returns c = all_placed c.loop-place.bits c.loop-place.rest c.loop-place.place _ (omega arith) c.loop-place.invariant.whole
