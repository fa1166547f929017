-- The samples that show an event, and their numbers.
use Rattle.std.proofs.Common.{◌≡◌, ℕ, ◌+◌, List, [], ◌∷◌, Option, None, Some, Result, Ok, Err, OnOk, ap, sym, subst, ◌∙◌}
use Rattle.std.proofs.lemmas.List.{append-nil}
use Rattle.std.specs.List.{flat_map}
use Rattle.std.specs.Option.{IsSomeAnd, option_map_or}
use Rattle.deck.specs.declared.deck.Deck.{Deck}
use Rattle.kmc_base.specs.declared.ids.OutId.{OutId}
use Rattle.kmc_base.specs.declared.ids.OutId.TheVariants.{History, Procstat, Specnum}
use Rattle.kmc_core.specs.DeckSystem.{DeckState}
use Rattle.kmc_report.proofs.DueAtEvents.{event-sample, next-some, no-event-sample}
use Rattle.kmc_report.specs.Sampler.{SamplerState, given_before, given_of, next_at_event, next_if, one_more}
use Rattle.kmc_report.specs.Samples.{event_samples, is_due_at, sampling_of}
use Rattle.kmc_report.specs.declared.sampler.Given.{Given}
use Rattle.kmc_run.specs.Given.{with_given}
use Rattle.kmc_run.specs.Samples.{event_writes, piece_of, sample_write, shown_at}
use Rattle.kmc_run.specs.Writes.{Append}
use Rattle.run_plan.specs.Soundness.{IsPeriod}
use Rattle.run_plan.specs.declared.plan.Sampling.{Sampling}
use Rattle.trajectory.specs.Trajectory.{Snapshot}
use Rattle.zacros_output.specs.Shown.{Shown}

-- the time of an event that a run has come to
pub time_is : (o : Option (Snapshot DeckState)) (time : ℕ) → IsSomeAnd o (λ s. time ≡ s.time) → time ≡ option_map_or (λ s. s.time) o 0
time_is None time is = absurd is
time_is (Some s) time is = is

-- the piece of a sample, by the deck and what was read from the run
pub piece_is : (deck read : Deck) (event number time : ℕ) (out : OutId) (view : ℕ → Shown) (text : List ℕ) (o : Option (Snapshot DeckState))
    → read ≡ deck → IsSomeAnd o (λ s. (t : ℕ) → view t ≡ shown_at deck event t s) → text ≡ piece_of out read number (view time)
    → IsSomeAnd o (λ s. text ≡ piece_of out deck number (shown_at deck event time s))
piece_is deck read event number time out view text None p v is = absurd v
piece_is deck read event number time out view text (Some s) p v is = is ∙ (λ i. piece_of out (p i) number (v time i))

-- the write of a sample, by its piece
pub append_is : (text : Snapshot DeckState → List ℕ) (out : OutId) (piece : List ℕ) (o : Option (Snapshot DeckState))
    → IsSomeAnd o (λ s. piece ≡ text s) → Append out piece ∷ [] ≡ option_map_or (λ s. Append out (text s) ∷ []) o []
append_is text out piece None is = absurd is
append_is text out piece (Some s) is = ap (λ (t : List ℕ). Append out t ∷ []) is

-- the writes of an event sample, or of none
pub one_write : (deck : Deck) (event number : ℕ) (out : OutId) → event_samples (sampling_of deck.plan out) event ≡ number ∷ []
    → sample_write deck event out number ≡ event_writes deck event out
one_write deck event number out is =
    sym (append-nil (sample_write deck event out number)) ∙ ap (flat_map (sample_write deck event out)) (sym is)

pub no_write : (deck : Deck) (event : ℕ) (out : OutId) → event_samples (sampling_of deck.plan out) event ≡ [] → [] ≡ event_writes deck event out
no_write deck event out is = ap (flat_map (sample_write deck event out)) (sym is)

-- the same samples of an output, or one more
pub given_same : (given : Given) (out : OutId) (number : ℕ) → given_of given out ≡ number → given ≡ with_given given out number
given_same given History number is = ap (λ n. with_given given History n) is
given_same given Procstat number is = ap (λ n. with_given given Procstat n) is
given_same given Specnum number is = ap (λ n. with_given given Specnum n) is

pub given_more : (given : Given) (out : OutId) (number : ℕ) → given_of given out + 1 ≡ number → one_more given out ≡ with_given given out number
given_more given History number is = ap (λ n. with_given given History n) is
given_more given Procstat number is = ap (λ n. with_given given Procstat n) is
given_more given Specnum number is = ap (λ n. with_given given Specnum n) is

-- a sampler gives the event sample that is due at an event
pub record GivesAtEvent (sampling : Sampling) (given event time number : ℕ) : Type 0 where
  pub samples : event_samples sampling event ≡ number ∷ []
  pub more : given + 1 ≡ given_before sampling (event + 1) time

pub gives_at_event : (sampling : Sampling) (given event time number : ℕ) → IsPeriod sampling → given ≡ given_before sampling event time
    → Some number ≡ next_if (is_due_at sampling event given) given → GivesAtEvent sampling given event time number
gives_at_event sampling given event time number period all is =
    let due : next_if (is_due_at sampling event (given_before sampling event time)) (given_before sampling event time) ≡ Some number
    = subst (λ (n : ℕ). next_if (is_due_at sampling event n) n ≡ Some number) all (sym is) in
    let one = event-sample sampling event time number period due in
    let same : number ≡ given = (next-some (is_due_at sampling event given) given number (sym is)).2 in
    record { samples = one.0; more = subst (λ (n : ℕ). n + 1 ≡ given_before sampling (event + 1) time) same one.1 }

pub record GivesNone (sampling : Sampling) (given event time : ℕ) : Type 0 where
  pub samples : event_samples sampling event ≡ []
  pub same : given ≡ given_before sampling (event + 1) time

pub gives_none : (sampling : Sampling) (given event time : ℕ) → IsPeriod sampling → given ≡ given_before sampling event time
    → None ≡ next_if (is_due_at sampling event given) given → GivesNone sampling given event time
gives_none sampling given event time period all is =
    let none = no-event-sample sampling event time period
    (subst (λ (n : ℕ). next_if (is_due_at sampling event n) n ≡ None) all (sym is)) in
    record { samples = none.0; same = all ∙ none.1 }

-- what holds anyway holds where a result is Ok
pub on_ok : {X E : Type 0} (r : Result X E) (P : Type 0) → P → OnOk r P
on_ok (Ok x) P p = p
on_ok (Err e) P p = tt

-- what a sampler gives at an event, by the event that was read from the run
pub event_read : (sampler : SamplerState) (out : OutId) (read event : ℕ) {r : Option ℕ} → r ≡ next_at_event sampler out read → read ≡ event
    → r ≡ next_if (is_due_at (sampling_of sampler.plan out) event (given_of sampler.given out)) (given_of sampler.given out)
event_read sampler out read event is same = is ∙ ap (next_at_event sampler out) same
