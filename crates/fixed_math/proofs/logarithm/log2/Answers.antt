-- What the code adds up is the logarithm, and the clauses follow from its laws.
use Rattle.std.proofs.Common.{◌≡◌, ◌+◌, ◌*◌, ◌%◌, ◌^◌, arith, add-one}
use Rattle.std.proofs.lemmas.Int.{ints}
use Rattle.fixed_math.specs.Logarithm.{log2_of}
use Rattle.fixed_math.proofs.LogarithmLemmas.{log2_of-sum, log2_of-le, log2_of-low, log2_of-high, log2_of-power_is}
use Rattle.fixed_math.proofs.logarithm.log2.Goals as goal

is_log2 : (c : goal.After-bits_of) → c.from.result * 2 ^ 30 % 2 ^ 64 + c.bits_of.result ≡ log2_of c.args.y
is_log2 c =
    log2_of-sum c.args.y c.ilog2-whole.result c.from.result c.bits_of.result c.requires.positive c.requires.in_range
    c.ilog2-whole.ensures.power_le c.ilog2-whole.ensures.next_power_gt c.from.ensures c.bits_of.ensures

pub overflow_add-result : goal.overflow_add-result
overflow_add-result c = omega (arith, is_log2 c, log2_of-le c.args.y c.requires.positive c.requires.in_range)

pub overflow_cast-result-2 : goal.overflow_cast-result-2
overflow_cast-result-2 c = omega (arith, ints, is_log2 c, log2_of-le c.args.y c.requires.positive c.requires.in_range)

pub returns-clause-value : goal.returns-clause-value
returns-clause-value c = omega (arith, ints, is_log2 c, log2_of-le c.args.y c.requires.positive c.requires.in_range)

pub returns-clause-range : goal.returns-clause-range
returns-clause-range c =
    let le = log2_of-le c.args.y c.requires.positive c.requires.in_range in
    let same = is_log2 c in
    (omega (arith, ints), omega (arith, ints))

pub returns-clause-power : goal.returns-clause-power
returns-clause-power c k is =
    omega (
      arith,
      ints,
      is_log2 c,
      log2_of-power_is c.args.y c.requires.positive c.requires.in_range k is,
      log2_of-le c.args.y c.requires.positive c.requires.in_range,
    )

pub returns-clause-low : goal.returns-clause-low
returns-clause-low c k low =
    omega (
      arith,
      ints,
      is_log2 c,
      log2_of-low c.args.y c.requires.positive c.requires.in_range k low,
      log2_of-le c.args.y c.requires.positive c.requires.in_range,
    )

pub returns-clause-high : goal.returns-clause-high
returns-clause-high c k high =
    omega (
      arith,
      ints,
      is_log2 c,
      log2_of-high c.args.y c.requires.positive c.requires.in_range k (rw add-one at high),
      log2_of-le c.args.y c.requires.positive c.requires.in_range,
    )
