-- The samples of a run are those that are due, and each of them is written.
use Rattle.std.proofs.Common.{◌≡◌, ℕ, ◌+◌, List, [], ◌∷◌, ◌++◌, Option, length, map, min, sym, ap, subst, ◌∙◌}
use Rattle.std.proofs.lemmas.List.{length-map}
use Rattle.std.proofs.lemmas.List.Elements.{All-append, All-cons, All-map, All-nil}
use Rattle.std.specs.List.{All, range_with_len}
use Rattle.std.specs.Option.{option_map_or}
use Rattle.deck.specs.declared.deck.Deck.{Deck}
use Rattle.kmc_base.specs.declared.ids.OutId.{OutId}
use Rattle.kmc_base.specs.declared.ids.OutId.TheVariants.{History, Procstat, Specnum}
use Rattle.kmc_core.specs.DeckSystem.{DeckState}
use Rattle.kmc_report.proofs.RunSamples.{each_sample_once, shown_while_current}
use Rattle.kmc_report.specs.Runs.{Sample, ShowsCurrent, samples_after, samples_of_event, showing}
use Rattle.kmc_report.specs.Samples.{event_samples, sample_time, sampling_of, time_samples}
use Rattle.kmc_report.specs.Stops.{samples_due}
use Rattle.kmc_report.specs.declared.stop.TheConstants.{MAX_SAMPLES}
use Rattle.kmc_run.proofs.RunEvents.{Comes, Follow, events-are, follow-start, last-is, later-are, later_events, run_never_falls}
use Rattle.kmc_run.specs.Ends.{last_event}
use Rattle.kmc_run.specs.RunSamples.{SamplesAreDue, end_of_run, event_times, later_times, run_samples, written_of}
use Rattle.kmc_run.specs.Samples.{piece_of, sample_write, shown_at, time_of}
use Rattle.kmc_run.specs.Writes.{Append}
use Rattle.run_plan.specs.Soundness.{IsPeriod, IsSoundPlan}
use Rattle.run_plan.specs.declared.plan.Plan.{Plan}
use Rattle.trajectory.specs.Trajectory.{Snapshot}

period-of : (plan : Plan) (out : OutId) → IsSoundPlan plan → IsPeriod (sampling_of plan out)
period-of plan History sound = sound.history
period-of plan Procstat sound = sound.procstat
period-of plan Specnum sound = sound.specnum

-- a sample of an event that the run comes to is one write
one-write : (deck : Deck) (out : OutId) (event number : ℕ) → Comes deck event → length (sample_write deck event out number) ≡ 1
one-write deck out event number comes =
    ap (λ (o : Option (Snapshot DeckState)). length (option_map_or (λ s. Append out (piece_of out deck number
    (shown_at deck event (sample_time (sampling_of deck.plan out) (time_of deck event) number) s)) ∷ []) o [])) comes.is

-- what holds of any member holds of all
all-of : (P : ℕ → Type 0) (numbers : List ℕ) → ((number : ℕ) → P number) → All P numbers
all-of P [] each = All-nil P
all-of P (number ∷ numbers) each = All-cons P number numbers (each number) (all-of P numbers each)

-- a sample is one write
abbrev IsOneWrite : Deck → OutId → Sample → Type 0
IsOneWrite deck out sample = length (written_of deck out sample) ≡ 1

showing-written : (deck : Deck) (out : OutId) (event : ℕ) (numbers : List ℕ) → Comes deck event
    → All (IsOneWrite deck out) (showing event numbers)
showing-written deck out event numbers comes =
    All-map (IsOneWrite deck out) (λ (number : ℕ). let sample : Sample = record { number = number; event = event } in sample) numbers
    (all-of (λ number. length (sample_write deck event out number) ≡ 1) numbers (λ number. one-write deck out event number comes))

from-written : (deck : Deck) (out : OutId) (event : ℕ) (rest : List ℕ) (end : ℕ) → Follow deck event rest
    → All (IsOneWrite deck out) (samples_after (sampling_of deck.plan out) event (time_of deck event) (map (time_of deck) rest) end)
from-written deck out event [] end f =
    let sampling = sampling_of deck.plan out in
    showing-written deck out event (event_samples sampling event ++ time_samples sampling (time_of deck event) (end + 1)) f.0
from-written deck out event (next ∷ rest) end f =
    let sampling = sampling_of deck.plan out in
    let here : next ≡ event + 1 = f.1.is in
    All-append (IsOneWrite deck out) (samples_of_event sampling event (time_of deck event) (time_of deck next))
    (samples_after sampling (event + 1) (time_of deck next) (map (time_of deck) rest) end)
    (showing-written deck out event (event_samples sampling event ++ time_samples sampling (time_of deck event) (time_of deck next)) f.0)
    (subst (λ (n : ℕ). All (IsOneWrite deck out) (samples_after sampling n (time_of deck next) (map (time_of deck) rest) end)) here
    (from-written deck out next rest end f.2))

-- the last event is the number of those after event 0
later-long : (deck : Deck) → length (later_times deck) ≡ last_event deck
later-long deck = ap length (later-are deck) ∙ length-map (later_events deck) (time_of deck) ∙ sym (last-is deck)

times-are : (deck : Deck) → event_times deck ≡ 0 ∷ later_times deck
times-are deck = ap (map (time_of deck)) (events-are deck) ∙ ap (λ (ts : List ℕ). 0 ∷ ts) (sym (later-are deck))

pub samples_are_due : SamplesAreDue
samples_are_due deck out sound =
    let sampling = sampling_of deck.plan out in
    let period : IsPeriod sampling = period-of deck.plan out sound.plan in
    let falls = run_never_falls deck in
    record {
      numbers = each_sample_once sampling (later_times deck) (end_of_run deck) period falls
          ∙ ap (λ n. range_with_len 0 (min MAX_SAMPLES (samples_due sampling n (end_of_run deck)))) (later-long deck);
      current = subst (λ (ts : List ℕ). All (ShowsCurrent sampling ts) (run_samples deck out)) (sym (times-are deck))
          (shown_while_current sampling (later_times deck) (end_of_run deck) period falls);
      written = subst (λ (ts : List ℕ). All (IsOneWrite deck out) (samples_after sampling 0 0 ts (end_of_run deck))) (sym (later-are deck))
          (from-written deck out 0 (later_events deck) (end_of_run deck) (follow-start deck));
    }
