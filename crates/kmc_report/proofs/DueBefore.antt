-- What a sampler gives before a time is what is due before it.
use Rattle.std.proofs.Common.{◌≡◌, ℕ, ◌+◌, ◌*◌, ◌<◌, ◌≤◌, [], ◌∷◌, None, Some, refl, sym, ◌∙◌, arith, inl, inr}
use Rattle.std.proofs.lemmas.Bool.{cases_lt, lt-ltb, ltb-true}
use Rattle.std.proofs.lemmas.Option.{none-some}
use Rattle.std.specs.Prelude.{nat_lt}
use Rattle.kmc_report.proofs.DueAtEvents.{next-false, next-none, next-some}
use Rattle.kmc_report.proofs.SampleNumbers.{below-bound, below-grows, below-limit, from-none, from-some, is-below}
use Rattle.kmc_report.specs.Sampler.{given_before, next_if}
use Rattle.kmc_report.specs.Samples.{is_due_before, samples_below, samples_left, time_samples}
use Rattle.run_plan.specs.Soundness.{IsPeriod}
use Rattle.run_plan.specs.declared.plan.Sampling.{Sampling}
use Rattle.run_plan.specs.declared.plan.Sampling.TheVariants.{Off, Event, Time}

-- the samples that are left before the first was given are those that are due
pub all-left : (sampling : Sampling) (event time until : ℕ)
    → time_samples sampling time until ≡ samples_left sampling (given_before sampling event time) until
all-left Off event time until = refl
all-left (Event n) event time until = refl
all-left (Time d) event time until = refl

-- a sample that is given is the first of those that are left
pub first-left : (sampling : Sampling) (until next number : ℕ) → IsPeriod sampling →
    next_if (is_due_before sampling until next) next ≡ Some number →
    samples_left sampling next until ≡ number ∷ samples_left sampling (number + 1) until
first-left Off until next number period is = absurd (none-some number (sym (next-false next) ∙ is))
first-left (Event n) until next number period is = absurd (none-some number (sym (next-false next) ∙ is))
first-left (Time d) until next number period is =
    let given = next-some (nat_lt (next * d) until) next number is in
    let within : next < samples_below d until = is-below d until next period.0 given.0 (ltb-true (next * d) until given.1) in
    rw (given.2) (from-some d next until within)

-- where none is given, none is left
pub none-left : (sampling : Sampling) (until next : ℕ) → IsPeriod sampling →
    next_if (is_due_before sampling until next) next ≡ None → samples_left sampling next until ≡ []
none-left Off until next period is = refl
none-left (Event n) until next period is = refl
none-left (Time d) until next period is =
    from-none d next until (elim (cases_lt next (samples_below d until)) [
      | inl more ↦ absurd (next-none (nat_lt (next * d) until) next is (below-limit d until next more)
          (lt-ltb (next * d) until (below-bound d until next period.0 more)))
      | inr most ↦ most
    ])

-- Between two times the samples that were given are never more than those that are due before the later one, and all of these
-- once none is given.
pub given-grows : (sampling : Sampling) (event time until : ℕ) → IsPeriod sampling → time ≤ until
    → given_before sampling event time ≤ given_before sampling event until
given-grows Off event time until period le = omega arith
given-grows (Event n) event time until period le = omega arith
given-grows (Time d) event time until period le = below-grows d time until period.0 le

pub given-more : (sampling : Sampling) (event until next number : ℕ) → IsPeriod sampling →
    next_if (is_due_before sampling until next) next ≡ Some number → number + 1 ≤ given_before sampling event until
given-more Off event until next number period is = absurd (none-some number (sym (next-false next) ∙ is))
given-more (Event n) event until next number period is = absurd (none-some number (sym (next-false next) ∙ is))
given-more (Time d) event until next number period is =
    let given = next-some (nat_lt (next * d) until) next number is in
    let within : next < samples_below d until = is-below d until next period.0 given.0 (ltb-true (next * d) until given.1) in
    rw (given.2) (omega (arith, within))

pub given-all : (sampling : Sampling) (event time until next : ℕ) → IsPeriod sampling →
    given_before sampling event time ≤ next → next ≤ given_before sampling event until →
    next_if (is_due_before sampling until next) next ≡ None → next ≡ given_before sampling event until
given-all Off event time until next period low high is = omega arith
given-all (Event n) event time until next period low high is = omega arith
given-all (Time d) event time until next period low high is =
    elim (cases_lt next (samples_below d until)) [
      | inl more ↦ absurd (next-none (nat_lt (next * d) until) next is (below-limit d until next more)
          (lt-ltb (next * d) until (below-bound d until next period.0 more)))
      | inr most ↦ omega (arith, most, high)
    ]
