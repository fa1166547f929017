-- What a sampler gives at an event is what is due there.
use Rattle.std.proofs.Common.{◌≡◌, ℕ, ◌+◌, ◌*◌, ◌<◌, ◌≤◌, Bool, true, false, [], ◌∷◌, None, Some, refl, sym, ap, ◌∙◌, arith, inl, inr}
use Rattle.std.proofs.lemmas.Bool.{cases_Bool, eq-eqb, eqb-true}
use Rattle.std.proofs.lemmas.Option.{none-some}
use Rattle.std.specs.Prelude.{nat_lt, ◌==◌}
use Rattle.kmc_report.proofs.SampleNumbers.{below-more, below-same, from-none, from-some}
use Rattle.kmc_report.specs.Sampler.{given_before, next_if}
use Rattle.kmc_report.specs.Samples.{event_samples, is_due_at, samples_below}
use Rattle.kmc_report.specs.declared.stop.TheConstants.{MAX_SAMPLES}
use Rattle.run_plan.specs.Soundness.{IsPeriod}
use Rattle.run_plan.specs.declared.plan.Sampling.{Sampling}
use Rattle.run_plan.specs.declared.plan.Sampling.TheVariants.{Off, Event, Time}

-- the next sample is given if and only if it is due and within the limit
pub next-some : (due : Bool) (next number : ℕ) → next_if due next ≡ Some number → (next < MAX_SAMPLES) × (due ≡ true) × (number ≡ next)
next-some due next number is = grind (arith)

pub next-none : (due : Bool) (next : ℕ) → next_if due next ≡ None → next < MAX_SAMPLES → due ≡ true → ⊥
next-none due next is within holds = grind (arith)

-- no sample is given that is not due
pub next-false : (next : ℕ) → next_if false next ≡ None
next-false next = elim (cases_Bool (nat_lt next MAX_SAMPLES)) [ inl t ↦ rw t refl | inr f ↦ rw f refl ]

-- A sampler that has given all samples of the events before one gives the sample that is due at it, and has then given all
-- those of the events before the next one.
pub event-sample : (sampling : Sampling) (event time number : ℕ) → IsPeriod sampling →
    next_if (is_due_at sampling event (given_before sampling event time)) (given_before sampling event time) ≡ Some number →
    (event_samples sampling event ≡ number ∷ []) × (number + 1 ≡ given_before sampling (event + 1) time)
event-sample Off event time number period is = absurd (none-some number (sym (next-false 0) ∙ is))
event-sample (Time d) event time number period is = absurd (none-some number (sym (next-false (samples_below d time)) ∙ is))
event-sample (Event n) event time number period is =
    let given = next-some (samples_below n event * n == event) (samples_below n event) number is in
    let due : samples_below n event * n ≡ event = eqb-true (samples_below n event * n) event given.1 in
    let more : samples_below n (event + 1) ≡ samples_below n event + 1 = below-more n event period.0 given.0 due in
    let first : samples_below n event < samples_below n (event + 1) = omega (arith, more) in
    let none : samples_below n (event + 1) ≤ samples_below n event + 1 = omega (arith, more) in (
      from-some n (samples_below n event) (event + 1) first
          ∙ ap (λ ns. samples_below n event ∷ ns) (from-none n (samples_below n event + 1) (event + 1) none)
          ∙ ap (λ (k : ℕ). k ∷ []) (sym given.2),
      ap (λ k. k + 1) given.2 ∙ sym more,
    )

-- Where it gives none, none is due at the event.
pub no-event-sample : (sampling : Sampling) (event time : ℕ) → IsPeriod sampling →
    next_if (is_due_at sampling event (given_before sampling event time)) (given_before sampling event time) ≡ None →
    (event_samples sampling event ≡ []) × (given_before sampling event time ≡ given_before sampling (event + 1) time)
no-event-sample Off event time period is = (refl, refl)
no-event-sample (Time d) event time period is = (refl, refl)
no-event-sample (Event n) event time period is =
    let same : samples_below n (event + 1) ≡ samples_below n event
    = below-same n event period.0 (λ within due. next-none (samples_below n event * n == event) (samples_below n event) is within
    (eq-eqb (samples_below n event * n) event due)) in
    (from-none n (samples_below n event) (event + 1) (omega (arith, same)), sym same)
