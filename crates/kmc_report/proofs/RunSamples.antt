-- The samples of a whole run: each is there once, and shows the event that is current.
use Rattle.std.proofs.Common.{◌≡◌, ℕ, zero, suc, ◌+◌, ◌-◌, ◌*◌, ◌<◌, ◌≤◌, List, [], ◌∷◌, ◌++◌, length, map, Option, None, Some, IfSome, refl, sym, ap, subst, ◌∙◌, arith}
use Rattle.std.proofs.lemmas.List.{append-nil, map-append}
use Rattle.std.proofs.lemmas.List.Elements.{All-append, All-map, All-nil, All-same}
use Rattle.std.specs.List.{All, slice_get}
use Rattle.std.specs.Option.{IsSomeAnd}
use Rattle.kmc_report.proofs.SampleNumbers.{from-zero, within-all, within-append}
use Rattle.kmc_report.specs.Runs.{EachSampleOnce, IsCurrent, NeverFalls, Sample, ShownWhileCurrent, ShowsCurrent, samples_after, samples_of_event, showing}
use Rattle.kmc_report.specs.Samples.{samples_within}
use Rattle.run_plan.specs.declared.plan.Sampling.{Sampling}
use Rattle.run_plan.specs.declared.plan.Sampling.TheVariants.{Off, Event, Time}

-- the numbers of samples
abbrev numbers_of : List Sample → List ℕ
numbers_of samples = map (λ (sample : Sample). sample.number) samples

numbers-showing : (event : ℕ) (numbers : List ℕ) → numbers_of (showing event numbers) ≡ numbers
numbers-showing event [] = refl
numbers-showing event (number ∷ numbers) = ap (λ ns. number ∷ ns) (numbers-showing event numbers)

numbers-append : (xs ys : List Sample) → numbers_of (xs ++ ys) ≡ numbers_of xs ++ numbers_of ys
numbers-append xs ys = map-append (λ (sample : Sample). sample.number) xs ys

-- samples whose output is off
off-none : (event time : ℕ) (later : List ℕ) (end : ℕ) → samples_after Off event time later end ≡ []
off-none event time [] end = refl
off-none event time (next ∷ later) end = off-none (event + 1) next later end

-- event samples from an event on are those up to the last event
event-numbers : (n event time : ℕ) (later : List ℕ) (end : ℕ) → 1 ≤ n
    → numbers_of (samples_after (Event n) event time later end) ≡ samples_within n event (event + length later + 1)
event-numbers n event time [] end some =
    numbers-showing event (samples_within n event (event + 1) ++ []) ∙ append-nil (samples_within n event (event + 1))
    ∙ ap (λ (last : ℕ). samples_within n event (last + 1)) (omega arith)
event-numbers n event time (next ∷ later) end some =
    numbers-append (samples_of_event (Event n) event time next) (samples_after (Event n) (event + 1) next later end)
    ∙ ap (λ ns. ns ++ numbers_of (samples_after (Event n) (event + 1) next later end))
    (numbers-showing event (samples_within n event (event + 1) ++ []) ∙ append-nil (samples_within n event (event + 1)))
    ∙ ap (λ ns. samples_within n event (event + 1) ++ ns) (event-numbers n (event + 1) next later end some)
    ∙ within-append n event (event + 1) (event + 1 + length later + 1) some (omega arith) (omega arith)
    ∙ ap (λ (last : ℕ). samples_within n event (last + 1)) (omega arith)

-- the time of an event is not after the end
end-after : (time : ℕ) (later : List ℕ) (end : ℕ) → NeverFalls time later end → time ≤ end
end-after time [] end falls = falls
end-after time (next ∷ later) end falls = let rest : next ≤ end = end-after next later end falls.1 in omega (arith, rest, falls.0)

-- time samples from a time on are those up to the end
time-numbers : (d event time : ℕ) (later : List ℕ) (end : ℕ) → 1 ≤ d → NeverFalls time later end
    → numbers_of (samples_after (Time d) event time later end) ≡ samples_within d time (end + 1)
time-numbers d event time [] end some falls = numbers-showing event (samples_within d time (end + 1))
time-numbers d event time (next ∷ later) end some falls =
    let last : next ≤ end = end-after next later end falls.1 in
    numbers-append (samples_of_event (Time d) event time next) (samples_after (Time d) (event + 1) next later end)
    ∙ ap (λ ns. ns ++ numbers_of (samples_after (Time d) (event + 1) next later end)) (numbers-showing event (samples_within d time next))
    ∙ ap (λ ns. samples_within d time next ++ ns) (time-numbers d (event + 1) next later end some falls.1)
    ∙ within-append d time next (end + 1) some falls.0 (omega (arith, last))

pub each_sample_once : EachSampleOnce
each_sample_once Off later end period falls = ap numbers_of (off-none 0 0 later end)
each_sample_once (Event n) later end period falls =
    event-numbers n 0 0 later end period.0 ∙ ap (λ (last : ℕ). samples_within n 0 (last + 1)) (omega arith)
    ∙ from-zero n (length later) period.0
each_sample_once (Time d) later end period falls = time-numbers d 0 0 later end period.0 falls ∙ from-zero d end period.0

-- what holds of a time, if there is one, of a lower bound and of a lesser number
if-after : (o : Option ℕ) (a b : ℕ) → a ≤ b → IfSome o (λ t. b ≤ t) → IfSome o (λ t. a ≤ t)
if-after None a b le is = tt
if-after (Some t) a b le is = omega (arith, is)

if-below : (o : Option ℕ) (a b : ℕ) → a < b → IfSome o (λ t. b ≤ t) → IfSome o (λ t. a < t)
if-below None a b lt is = tt
if-below (Some t) a b lt is = omega (arith, is)

-- no later event is before a time that none of them falls below
later-after : (time : ℕ) (later : List ℕ) (end : ℕ) → NeverFalls time later end → (i : ℕ) → IfSome (slice_get later i) (λ t. time ≤ t)
later-after time [] end falls i = tt
later-after time (next ∷ later) end falls zero = falls.0
later-after time (next ∷ later) end falls (suc i) =
    if-after (slice_get later i) time next falls.0 (later-after next later end falls.1 i)

-- the times of the events of a run, from one event on
abbrev AreFrom : List ℕ → ℕ → List ℕ → Type 0
AreFrom times event rest = (i : ℕ) → slice_get times (event + i) ≡ slice_get rest i

from-next : (times : List ℕ) (event time : ℕ) (later : List ℕ) → AreFrom times event (time ∷ later) → AreFrom times (event + 1) later
from-next times event time later are i =
    let next : event + 1 + i ≡ event + suc i = omega arith in
    ap (λ (k : ℕ). slice_get times k) next ∙ are (suc i)

-- a moment from the time of an event on, and before all later events, is one of that event
is-current : (times : List ℕ) (event time until moment : ℕ) (later : List ℕ) → AreFrom times event (time ∷ later)
    → ((i : ℕ) → IfSome (slice_get later i) (λ t. until ≤ t)) → time ≤ moment → moment < until → IsCurrent times event moment
is-current times event time until moment later are after low high = record {
  happened =
      let here : event ≡ event + 0 = omega arith in
      let is : slice_get times event ≡ Some time = ap (λ (k : ℕ). slice_get times k) here ∙ are 0 in
      let P : Option ℕ → Type 0 = λ o. IsSomeAnd o (λ t. t ≤ moment) in subst P (sym is) low;
  not_over = λ other more.
      let there : other ≡ event + suc (other - (event + 1)) = omega arith in
      let is : slice_get times other ≡ slice_get later (other - (event + 1))
      = ap (λ (k : ℕ). slice_get times k) there ∙ are (suc (other - (event + 1))) in
      let P : Option ℕ → Type 0 = λ o. IfSome o (λ t. moment < t) in
      subst P (sym is) (if-below (slice_get later (other - (event + 1))) moment until high (after (other - (event + 1))));
}

-- samples with numbers that all show an event rightly
showing-all : (sampling : Sampling) (times : List ℕ) (event : ℕ) (numbers : List ℕ)
    → All (λ number. ShowsCurrent sampling times (record { number = number; event = event })) numbers
    → All (ShowsCurrent sampling times) (showing event numbers)
showing-all sampling times event numbers each =
    All-map (ShowsCurrent sampling times) (λ (number : ℕ). let sample : Sample = record { number = number; event = event } in sample) numbers each

-- event samples show the event that they are due at
event-all : (n event : ℕ) → 1 ≤ n → All (λ number. number * n ≡ event) (samples_within n event (event + 1) ++ [])
event-all n event some =
    All-append (λ number. number * n ≡ event) (samples_within n event (event + 1)) []
    (within-all (λ number. number * n ≡ event) n event (event + 1) some (omega arith) (λ k low high. omega (arith, low, high)))
    (All-nil (λ number. number * n ≡ event))

event-shown : (n : ℕ) (times : List ℕ) (event time : ℕ) (later : List ℕ) (end : ℕ) → 1 ≤ n
    → All (ShowsCurrent (Event n) times) (samples_after (Event n) event time later end)
event-shown n times event time [] end some =
    showing-all (Event n) times event (samples_within n event (event + 1) ++ []) (event-all n event some)
event-shown n times event time (next ∷ later) end some =
    All-append (ShowsCurrent (Event n) times) (samples_of_event (Event n) event time next)
    (samples_after (Event n) (event + 1) next later end)
    (showing-all (Event n) times event (samples_within n event (event + 1) ++ []) (event-all n event some))
    (event-shown n times (event + 1) next later end some)

-- time samples show the event that is current
time-all : (d : ℕ) (times : List ℕ) (event time until : ℕ) (later : List ℕ) → 1 ≤ d → time ≤ until → AreFrom times event (time ∷ later)
    → ((i : ℕ) → IfSome (slice_get later i) (λ t. until ≤ t)) → All (ShowsCurrent (Time d) times) (showing event (samples_within d time until))
time-all d times event time until later some le are after =
    showing-all (Time d) times event (samples_within d time until)
    (within-all (λ number. IsCurrent times event (number * d)) d time until some le
    (λ k low high. is-current times event time until (k * d) later are after low high))

time-shown : (d : ℕ) (times : List ℕ) (event time : ℕ) (later : List ℕ) (end : ℕ) → 1 ≤ d → AreFrom times event (time ∷ later)
    → NeverFalls time later end → All (ShowsCurrent (Time d) times) (samples_after (Time d) event time later end)
time-shown d times event time [] end some are falls = time-all d times event time (end + 1) [] some (omega (arith, falls)) are (λ i. tt)
time-shown d times event time (next ∷ later) end some are falls =
    All-append (ShowsCurrent (Time d) times) (samples_of_event (Time d) event time next)
    (samples_after (Time d) (event + 1) next later end)
    (time-all d times event time next (next ∷ later) some falls.0 are (later-after next (next ∷ later) end (omega arith, falls.1)))
    (time-shown d times (event + 1) next later end some (from-next times event time (next ∷ later) are) falls.1)

pub shown_while_current : ShownWhileCurrent
shown_while_current Off later end period falls =
    All-same (ShowsCurrent Off (0 ∷ later)) (samples_after Off 0 0 later end) [] (off-none 0 0 later end) (All-nil (ShowsCurrent Off (0 ∷ later)))
shown_while_current (Event n) later end period falls = event-shown n (0 ∷ later) 0 0 later end period.0
shown_while_current (Time d) later end period falls =
    time-shown d (0 ∷ later) 0 0 later end period.0 (λ i. ap (λ (k : ℕ). slice_get (0 ∷ later) k) (omega arith)) falls
