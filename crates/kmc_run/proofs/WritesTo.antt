-- The writes to one output, among all that a run writes.
use Rattle.std.proofs.Common.{◌≡◌, ℕ, suc, ◌+◌, Bool, true, false, cond, List, [], ◌∷◌, ◌++◌, Option, None, Some, length, map, refl, sym, ap, ◌∙◌, arith}
use Rattle.std.proofs.lemmas.List.{append_assoc, append-nil}
use Rattle.std.proofs.lemmas.List.Elements.{filter-append}
use Rattle.std.proofs.lemmas.List.Folds.{flat_map-map}
use Rattle.std.proofs.lemmas.Grind.{flat_map-append}
use Rattle.std.specs.List.{flat_map}
use Rattle.std.specs.Option.{option_map_or}
use Rattle.std.specs.Prelude.{if◌then◌else◌}
use Rattle.deck.specs.declared.deck.Deck.{Deck}
use Rattle.kmc_base.specs.declared.ids.OutId.{OutId}
use Rattle.kmc_base.specs.declared.ids.OutId.TheVariants.{History, Procstat, Specnum}
use Rattle.kmc_core.specs.DeckSystem.{DeckState, trajectory_of}
use Rattle.kmc_report.specs.Runs.{Sample, samples_after, samples_of_event}
use Rattle.kmc_report.specs.Samples.{event_samples, sample_time, sampling_of, time_samples}
use Rattle.kmc_report.specs.Stops.{end_of_samples}
use Rattle.kmc_report.specs.declared.stop.Stop.{Stop}
use Rattle.kmc_run.proofs.EventTimes.{until-next}
use Rattle.kmc_run.proofs.RunEvents.{Follow, StopsAt, end-is, end_at, events-are, follow-start, later-are, later_events}
use Rattle.kmc_run.specs.RunSamples.{WritesItsSamples, end_of_run, is_same, written_of, writes_to}
use Rattle.kmc_run.specs.Samples.{begin_writes, event_writes, events_from, head_of, head_writes, is_sampled, of_each, piece_of, sample_write, shown_at, shown_until, time_of, time_writes, writes_at, writes_before}
use Rattle.kmc_run.specs.Writes.{Append, Begin, Write, target_of}
use Rattle.trajectory.specs.Trajectory.{Snapshot}

to-append : (out : OutId) (a b : List Write) → writes_to out (a ++ b) ≡ writes_to out a ++ writes_to out b
to-append out a b = filter-append (λ write. is_same (target_of write) out) a b

-- Writes that are all to one output.
abbrev AreTo : OutId → List Write → Type 0
AreTo one writes = (out : OutId) → writes_to out writes ≡ cond (is_same one out) writes []

no-writes : (b : Bool) (none : List Write) → none ≡ [] → none ≡ cond b none []
no-writes true none is = refl
no-writes false none is = is

to-none : (one : OutId) → AreTo one []
to-none one out = no-writes (is_same one out) [] refl

to-begin : (one : OutId) → AreTo one (Begin one ∷ [])
to-begin one out = refl

to-piece : (one : OutId) (piece : List ℕ) → AreTo one (Append one piece ∷ [])
to-piece one piece out = refl

both-to : (b : Bool) (x y : List Write) → cond b x [] ++ cond b y [] ≡ cond b (x ++ y) []
both-to true x y = refl
both-to false x y = refl

to-both : (one : OutId) (x y : List Write) → AreTo one x → AreTo one y → AreTo one (x ++ y)
to-both one x y p q out =
    to-append out x y ∙ (λ i. p out i ++ q out i) ∙ both-to (is_same one out) x y

to-flat : (one : OutId) (f : ℕ → List Write) (numbers : List ℕ) → ((number : ℕ) → AreTo one (f number)) → AreTo one (flat_map f numbers)
to-flat one f [] each = to-none one
to-flat one f (number ∷ numbers) each = to-both one (f number) (flat_map f numbers) (each number) (to-flat one f numbers each)

to-if : (one : OutId) (b : Bool) (writes : List Write) → AreTo one writes → AreTo one (if b then writes else [])
to-if one true writes p = p
to-if one false writes p = to-none one

to-sample : (one : OutId) (text : Snapshot DeckState → List ℕ) (o : Option (Snapshot DeckState))
    → AreTo one (option_map_or (λ s. Append one (text s) ∷ []) o [])
to-sample one text None = to-none one
to-sample one text (Some s) = to-piece one (text s)

sample-to : (deck : Deck) (event : ℕ) (one : OutId) (number : ℕ) → AreTo one (sample_write deck event one number)
sample-to deck event one number =
    to-sample one (λ s. piece_of one deck number
    (shown_at deck event (sample_time (sampling_of deck.plan one) (time_of deck event) number) s)) (trajectory_of deck event)

event-to : (deck : Deck) (event : ℕ) (one : OutId) → AreTo one (event_writes deck event one)
event-to deck event one =
    to-flat one (sample_write deck event one) (event_samples (sampling_of deck.plan one) event) (sample-to deck event one)

time-to : (deck : Deck) (event until : ℕ) (one : OutId) → AreTo one (time_writes deck event until one)
time-to deck event until one =
    to-flat one (sample_write deck event one) (time_samples (sampling_of deck.plan one) (time_of deck event) until) (sample-to deck event one)

begin-to : (deck : Deck) (one : OutId) → AreTo one (begin_writes deck one)
begin-to deck one = to-if one (is_sampled (sampling_of deck.plan one)) (Begin one ∷ []) (to-begin one)

head-to : (deck : Deck) (one : OutId) → AreTo one (head_writes deck one)
head-to deck one = to-if one (is_sampled (sampling_of deck.plan one)) (Append one (head_of one deck) ∷ []) (to-piece one (head_of one deck))

-- of what is written of each output, that of the one
each-to : (f : OutId → List Write) → ((one : OutId) → AreTo one (f one)) → (out : OutId) → writes_to out (of_each f) ≡ f out
each-to f to out =
    to-append out (f History) (f Procstat ++ f Specnum)
    ∙ ap (λ ws. writes_to out (f History) ++ ws) (to-append out (f Procstat) (f Specnum))
    ∙ (λ i. to History out i ++ (to Procstat out i ++ to Specnum out i))
    ∙ only f out
  where
    only : (f : OutId → List Write) (out : OutId)
        → cond (is_same History out) (f History) [] ++ (cond (is_same Procstat out) (f Procstat) [] ++ cond (is_same Specnum out) (f Specnum) []) ≡ f out
    only f History = append-nil (f History)
    only f Procstat = append-nil (f Procstat)
    only f Specnum = refl

-- the writes to an output at an event
abbrev at_event : Deck → OutId → ℕ → List Write
at_event deck out event = event_writes deck event out ++ time_writes deck event (shown_until deck event) out

at-event : (deck : Deck) (out : OutId) (event : ℕ) → writes_to out (writes_at deck event) ≡ at_event deck out event
at-event deck out event =
    to-append out (of_each (event_writes deck event)) (of_each (time_writes deck event (shown_until deck event)))
    ∙ (λ i. each-to (event_writes deck event) (event-to deck event) out i
    ++ each-to (time_writes deck event (shown_until deck event)) (time-to deck event (shown_until deck event)) out i)

at-events : (deck : Deck) (out : OutId) (events : List ℕ)
    → writes_to out (flat_map (writes_at deck) events) ≡ flat_map (at_event deck out) events
at-events deck out [] = refl
at-events deck out (event ∷ events) =
    to-append out (writes_at deck event) (flat_map (writes_at deck) events)
    ∙ (λ i. at-event deck out event i ++ at-events deck out events i)

before-to : (deck : Deck) (out : OutId) → writes_to out (writes_before deck) ≡ begin_writes deck out ++ head_writes deck out
before-to deck out =
    to-append out (of_each (begin_writes deck)) (of_each (head_writes deck))
    ∙ (λ i. each-to (begin_writes deck) (begin-to deck) out i ++ each-to (head_writes deck) (head-to deck) out i)

-- the samples that show an event until a time are what is written of it
of-event : (deck : Deck) (out : OutId) (event until : ℕ)
    → event_writes deck event out ++ time_writes deck event until out
    ≡ flat_map (written_of deck out) (samples_of_event (sampling_of deck.plan out) event (time_of deck event) until)
of-event deck out event until =
    let sampling = sampling_of deck.plan out in
    let numbers = event_samples sampling event ++ time_samples sampling (time_of deck event) until in
    sym (flat_map-append (sample_write deck event out) (event_samples sampling event) (time_samples sampling (time_of deck event) until))
    ∙ sym (flat_map-map (written_of deck out) (λ (number : ℕ). let sample : Sample = record { number = number; event = event } in sample) numbers)

-- where the run stops, samples are taken up to the end
until-end : (deck : Deck) (event : ℕ) → StopsAt deck event → shown_until deck event ≡ end_at deck event + 1
until-end deck event stops =
    ap (λ (o : Option Stop). option_map_or (λ stop. end_of_samples deck.plan (time_of deck event) stop + 1) o (time_of deck (event + 1))) stops.is
    ∙ sym (ap (λ (o : Option Stop). option_map_or (λ stop. end_of_samples deck.plan (time_of deck event) stop) o 0 + 1) stops.is)

-- the writes at an event and at those that follow it are those of the samples from it on
from-event : (deck : Deck) (out : OutId) (event : ℕ) (rest : List ℕ) (end : ℕ) → Follow deck event rest → end ≡ end_at deck (event + length rest)
    → flat_map (at_event deck out) (event ∷ rest)
    ≡ flat_map (written_of deck out) (samples_after (sampling_of deck.plan out) event (time_of deck event) (map (time_of deck) rest) end)
from-event deck out event [] end f is =
    let none : event ≡ event + 0 = omega arith in
    let same : shown_until deck event ≡ end + 1
    = until-end deck event f.1 ∙ ap (λ n. n + 1) (ap (end_at deck) none ∙ sym is) in
    append-nil (at_event deck out event)
    ∙ ap (λ until. event_writes deck event out ++ time_writes deck event until out) same
    ∙ of-event deck out event (end + 1)
from-event deck out event (next ∷ rest) end f is =
    let sampling = sampling_of deck.plan out in
    let here : event + 1 ≡ next = sym f.1.is in
    let until : shown_until deck event ≡ time_of deck next = until-next deck event f.1.on ∙ ap (time_of deck) here in
    let next_is : next ≡ event + 1 = f.1.is in
    let one : event + suc (length rest) ≡ next + length rest = omega arith in
    let last : end ≡ end_at deck (next + length rest) = is ∙ ap (end_at deck) one in
    let first : at_event deck out event ≡ flat_map (written_of deck out) (samples_of_event sampling event (time_of deck event) (time_of deck next))
    = ap (λ n. event_writes deck event out ++ time_writes deck event n out) until ∙ of-event deck out event (time_of deck next) in
    let others = from-event deck out next rest end f.2 last
    ∙ ap (λ n. flat_map (written_of deck out) (samples_after sampling n (time_of deck next) (map (time_of deck) rest) end)) (sym here) in
    (λ i. first i ++ others i)
    ∙ sym (flat_map-append (written_of deck out) (samples_of_event sampling event (time_of deck event) (time_of deck next))
    (samples_after sampling (event + 1) (time_of deck next) (map (time_of deck) rest) end))

pub writes_its_samples : WritesItsSamples
writes_its_samples deck out =
    let sampling = sampling_of deck.plan out in
    let zero_more : length (later_events deck) ≡ 0 + length (later_events deck) = omega arith in
    let end : end_of_run deck ≡ end_at deck (0 + length (later_events deck)) = end-is deck ∙ ap (end_at deck) zero_more in
    to-append out (writes_before deck) (flat_map (writes_at deck) (events_from deck 0))
    ∙ (λ i. before-to deck out i ++ at-events deck out (events_from deck 0) i)
    ∙ append_assoc (begin_writes deck out) (head_writes deck out) (flat_map (at_event deck out) (events_from deck 0))
    ∙ ap (λ ws. begin_writes deck out ++ (head_writes deck out ++ ws))
    (ap (flat_map (at_event deck out)) (events-are deck)
    ∙ from-event deck out 0 (later_events deck) (end_of_run deck) (follow-start deck) end
    ∙ ap (λ (ts : List ℕ). flat_map (written_of deck out) (samples_after sampling 0 0 ts (end_of_run deck))) (sym (later-are deck)))
