-- Each answer by the lemma on that answer.
use Rattle.std.proofs.Common.{◌∙◌, ap, ℕ, ◌+◌, arith}
use Rattle.kmc_base.specs.declared.firing_time.When.TheVariants.{At}
use Rattle.fixed_math.proofs.TimeLemmas.{seconds_fit, seconds_in_range, is_mean_wait, time_of-none, time_of-late, time_of-past}
use Rattle.fixed_math.proofs.TimeLemmas.{time_of-due, wait_of-product, never_at}
use Rattle.fixed_math.proofs.waiting_time.wait.Goals as goal

pub returns-in_default-clause-value : goal.returns-in_default-clause-value
returns-in_default-clause-value c = time_of-none c.args.lg c.args.w c.args.now c.in_default.is

pub overflow_sub-lg : goal.overflow_sub-lg
overflow_sub-lg c = seconds_fit c.in-Some.lg (c.requires.rate c.in-Some.lg c.in-Some.is)

pub exp2-mantissa-requires : goal.exp2-mantissa-requires
exp2-mantissa-requires c = seconds_in_range c.in-Some.lg (c.requires.rate c.in-Some.lg c.in-Some.is)

pub returns-then-exponent-gt-MAX_EXPONENT-clause-value : goal.returns-then-exponent-gt-MAX_EXPONENT-clause-value
returns-then-exponent-gt-MAX_EXPONENT-clause-value c =
    let small = c.requires.rate c.in-Some.lg c.in-Some.is in
    let is_mean = is_mean_wait c.in-Some.lg small c.exp2-mantissa.result c.exp2-mantissa.ensures.value in
    time_of-late c.args.lg c.in-Some.lg c.args.w c.args.now c.exp2-mantissa.result c.in-Some.is is_mean c.exp2-mantissa.ensures.exponent
    c.if-exponent-gt-MAX_EXPONENT.true

pub returns-then-time-gt-END_OF_TIME-clause-value : goal.returns-then-time-gt-END_OF_TIME-clause-value
returns-then-time-gt-END_OF_TIME-clause-value c =
    let small = c.requires.rate c.in-Some.lg c.in-Some.is in
    let is_mean = is_mean_wait c.in-Some.lg small c.exp2-mantissa.result c.exp2-mantissa.ensures.value in
    let is_wait = c.max.ensures
    ∙ wait_of-product c.args.lg c.in-Some.lg c.args.w c.args.now c.exp2-mantissa.result c.in-Some.is is_mean
    c.exp2-mantissa.ensures.exponent
    c.from.result c.from-2.result c.scaled.result (c.from.ensures ∙ c.gap.ensures.value) c.from-2.ensures c.scaled.ensures.value in
    time_of-past c.args.lg c.in-Some.lg c.args.w c.args.now c.exp2-mantissa.result c.in-Some.is is_mean c.exp2-mantissa.ensures.exponent
    (omega (arith, is_wait))

pub returns-else-time-gt-END_OF_TIME-clause-value : goal.returns-else-time-gt-END_OF_TIME-clause-value
returns-else-time-gt-END_OF_TIME-clause-value c =
    let small = c.requires.rate c.in-Some.lg c.in-Some.is in
    let is_mean = is_mean_wait c.in-Some.lg small c.exp2-mantissa.result c.exp2-mantissa.ensures.value in
    let is_wait = c.max.ensures
    ∙ wait_of-product c.args.lg c.in-Some.lg c.args.w c.args.now c.exp2-mantissa.result c.in-Some.is is_mean
    c.exp2-mantissa.ensures.exponent
    c.from.result c.from-2.result c.scaled.result (c.from.ensures ∙ c.gap.ensures.value) c.from-2.ensures c.scaled.ensures.value in
    ap (λ (t : ℕ). At (c.args.now + t)) is_wait ∙
    time_of-due c.args.lg c.in-Some.lg c.args.w c.args.now c.exp2-mantissa.result c.in-Some.is is_mean c.exp2-mantissa.ensures.exponent
    c.if-exponent-gt-MAX_EXPONENT.false (omega (arith, is_wait))

pub returns-then-exponent-gt-MAX_EXPONENT-clause-never : goal.returns-then-exponent-gt-MAX_EXPONENT-clause-never
returns-then-exponent-gt-MAX_EXPONENT-clause-never c = never_at c.args.lg c.args.w c.args.now _ (returns-then-exponent-gt-MAX_EXPONENT-clause-value c)

pub returns-then-time-gt-END_OF_TIME-clause-never : goal.returns-then-time-gt-END_OF_TIME-clause-never
returns-then-time-gt-END_OF_TIME-clause-never c = never_at c.args.lg c.args.w c.args.now _ (returns-then-time-gt-END_OF_TIME-clause-value c)

pub returns-else-time-gt-END_OF_TIME-clause-never : goal.returns-else-time-gt-END_OF_TIME-clause-never
returns-else-time-gt-END_OF_TIME-clause-never c = never_at c.args.lg c.args.w c.args.now _ (returns-else-time-gt-END_OF_TIME-clause-value c)
