-- The events of a run, each of which follows the one before it, up to the one at which the run stops.
use Rattle.std.proofs.Common.{◌≡◌, ℕ, zero, suc, ◌+◌, ◌-◌, ◌<◌, ◌≤◌, inl, inr, List, [], ◌∷◌, Option, None, Some, drop, get_or, length, map, refl, sym, ap, subst, ◌∙◌, arith}
use Rattle.std.proofs.lemmas.Bool.{cases_lt}
use Rattle.std.specs.List.{range_with_len}
use Rattle.std.specs.Option.{IsSome, is_some, option_map_or}
use Rattle.std.specs.Prelude.{option_and_then, unwrap_or}
use Rattle.deck.specs.declared.deck.Deck.{Deck}
use Rattle.kmc_base.specs.Entries.{least}
use Rattle.kmc_base.specs.declared.limits.TheConstants.{END_OF_TIME}
use Rattle.kmc_core.specs.DeckSystem.{DeckState, trajectory_of}
use Rattle.kmc_core.specs.Run.{stop_of, time_of_first}
use Rattle.kmc_report.specs.Runs.{NeverFalls}
use Rattle.kmc_report.specs.Stops.{end_of_samples, end_of_time, stop_at}
use Rattle.kmc_report.specs.declared.stop.Stop.{Stop}
use Rattle.kmc_report.specs.declared.stop.Stop.TheVariants.{Samples, Steps, Still, Horizon}
use Rattle.kmc_run.proofs.EventLemmas.{first-later, later-next, later-stopped, later}
use Rattle.kmc_run.proofs.EventTimes.{NextEvent, next-in_time, next-not-before, next-of, start-in_time}
use Rattle.kmc_run.specs.Ends.{last_event}
use Rattle.kmc_run.specs.RunSamples.{RunNeverFalls, RunsGoToTheirStop, end_of_run, later_times}
use Rattle.kmc_run.specs.Samples.{events_from, time_of}
use Rattle.run_plan.specs.declared.plan.Plan.{Plan}
use Rattle.trajectory.specs.Trajectory.{Snapshot}

-- the trajectory comes to an event
pub record Comes (deck : Deck) (event : ℕ) : Type 0 where
  pub snapshot : Snapshot DeckState
  pub is : trajectory_of deck event ≡ Some snapshot

-- the run stops at an event
pub record StopsAt (deck : Deck) (event : ℕ) : Type 0 where
  pub stop : Stop
  pub is : stop_of deck event ≡ Some stop

-- an event, at which the run goes on, is followed by another
pub record GoesOn (deck : Deck) (event next : ℕ) : Type 0 where
  pub on : stop_of deck event ≡ None
  pub is : next ≡ event + 1

-- These events follow one in a run, in order, and the run stops at the last of them.
abbrev pub Follow : Deck → ℕ → List ℕ → Type 0
Follow deck event [] = Comes deck event × StopsAt deck event
Follow deck event (next ∷ rest) = Comes deck event × GoesOn deck event next × Follow deck next rest

-- a run stops at its greatest number of events
stops-at : (plan : Plan) (event time : ℕ) (least : Option ℕ) (o : Option Stop) → event ≡ plan.max_steps → stop_at plan event time least ≡ o
    → o ≡ None → ⊥
stops-at plan event time least o is at none = grind (arith)

stops-in-time : (deck : Deck) (event : ℕ) → Comes deck event → event ≡ deck.plan.max_steps → stop_of deck event ≡ None → ⊥
stops-in-time deck event comes is none =
    stops-at deck.plan event comes.snapshot.time (time_of_first (least comes.snapshot.entries)) (stop_of deck event) is
    (sym (ap (option_and_then (λ (s : Snapshot DeckState). stop_at deck.plan event s.time (time_of_first (least s.entries)))) comes.is)) none

-- the events of a run after one of which at most so many follow
follow-later : (deck : Deck) (left event : ℕ) → Comes deck event → event + left ≡ deck.plan.max_steps → Follow deck event (later deck left event)
follow-later deck zero event comes is =
    elim (stop_of deck event) as (λ o. stop_of deck event ≡ o → Follow deck event (later deck zero event)) [
      | None ↦ λ e. absurd (stops-in-time deck event comes (omega arith) e)
      | Some stop ↦ λ e. subst (Follow deck event) (sym (later-stopped deck zero event stop e)) (comes, record { stop = stop; is = e })
    ] refl
follow-later deck (suc left) event comes is =
    elim (stop_of deck event) as (λ o. stop_of deck event ≡ o → Follow deck event (later deck (suc left) event)) [
      | None ↦ λ e.
          let n : NextEvent deck event comes.snapshot = next-of deck event comes.snapshot comes.is e in
          let next : Comes deck (event + 1) = record { snapshot = n.snapshot; is = n.is } in
          subst (Follow deck event) (sym (later-next deck left event e ∙ first-later deck left (event + 1)))
          (comes, record { on = e; is = refl }, follow-later deck left (event + 1) next (omega arith))
      | Some stop ↦ λ e. subst (Follow deck event) (sym (later-stopped deck (suc left) event stop e)) (comes, record { stop = stop; is = e })
    ] refl

-- the events of a run after event 0
pub later_events : Deck → List ℕ
later_events deck = later deck (deck.plan.max_steps - 0) 0

pub events-are : (deck : Deck) → events_from deck 0 ≡ 0 ∷ later_events deck
unfolding later_events
events-are deck = first-later deck (deck.plan.max_steps - 0) 0

pub follow-start : (deck : Deck) → Follow deck 0 (later_events deck)
unfolding later_events
follow-start deck =
    let start : Comes deck 0 = record { snapshot = _; is = refl } in
    follow-later deck (deck.plan.max_steps - 0) 0 start (omega arith)

-- the events that follow one have the next numbers
follow-range : (deck : Deck) (event : ℕ) (rest : List ℕ) → Follow deck event rest → event ∷ rest ≡ range_with_len event (suc (length rest))
follow-range deck event [] f = refl
follow-range deck event (next ∷ rest) f =
    ap (λ es. event ∷ es) (follow-range deck next rest f.2 ∙ ap (λ n. range_with_len n (suc (length rest))) f.1.is)

follow-last : (deck : Deck) (event : ℕ) (rest : List ℕ) → Follow deck event rest → get_or (event ∷ rest) (length rest) 0 ≡ event + length rest
follow-last deck event [] f = omega arith
follow-last deck event (next ∷ rest) f =
    let last : get_or (next ∷ rest) (length rest) 0 ≡ next + length rest = follow-last deck next rest f.2 in
    let is : next ≡ event + 1 = f.1.is in
    last ∙ omega arith

follow-there : (deck : Deck) (event : ℕ) (rest : List ℕ) → Follow deck event rest → (other : ℕ) → event ≤ other → other ≤ event + length rest
    → Comes deck other
follow-there deck event [] f other low high =
    let same : event ≡ other = omega arith in subst (Comes deck) same f.0
follow-there deck event (next ∷ rest) f other low high =
    let is : next ≡ event + 1 = f.1.is in
    elim (cases_lt event other) [
      | inl after ↦ follow-there deck next rest f.2 other (omega arith) (omega arith)
      | inr here ↦ let same : event ≡ other = omega arith in subst (Comes deck) same f.0
    ]

follow-on : (deck : Deck) (event : ℕ) (rest : List ℕ) → Follow deck event rest → (other : ℕ) → event ≤ other → other < event + length rest
    → stop_of deck other ≡ None
follow-on deck event [] f other low high = absurd (omega arith)
follow-on deck event (next ∷ rest) f other low high =
    let is : next ≡ event + 1 = f.1.is in
    elim (cases_lt event other) [
      | inl after ↦ follow-on deck next rest f.2 other (omega arith) (omega arith)
      | inr here ↦
          let same : event ≡ other = omega arith in
          subst (λ (n : ℕ). stop_of deck n ≡ None) same f.1.on
    ]

pub follow-stop : (deck : Deck) (event : ℕ) (rest : List ℕ) → Follow deck event rest → StopsAt deck (event + length rest)
follow-stop deck event [] f = let same : event ≡ event + 0 = omega arith in subst (StopsAt deck) same f.1
follow-stop deck event (next ∷ rest) f =
    let is : next ≡ event + 1 = f.1.is in
    let same : next + length rest ≡ event + suc (length rest) = omega arith in
    subst (StopsAt deck) same (follow-stop deck next rest f.2)

-- the last event of a run
pub last-is : (deck : Deck) → last_event deck ≡ length (later_events deck)
last-is deck =
    let all : events_from deck 0 ≡ 0 ∷ later_events deck = events-are deck in
    let long : length (0 ∷ later_events deck) - 1 ≡ length (later_events deck) = omega arith in
    ap (λ (es : List ℕ). get_or es (length es - 1) 0) all
    ∙ ap (λ n. get_or (0 ∷ later_events deck) n 0) long
    ∙ follow-last deck 0 (later_events deck) (follow-start deck) ∙ omega arith

comes-some : (deck : Deck) (event : ℕ) → Comes deck event → IsSome (trajectory_of deck event)
comes-some deck event comes = ap is_some comes.is

pub runs_go_to_their_stop : RunsGoToTheirStop
runs_go_to_their_stop deck =
    let f = follow-start deck in
    let last = last-is deck in
    let stops : StopsAt deck (0 + length (later_events deck)) = follow-stop deck 0 (later_events deck) f in
    let same : 0 + length (later_events deck) ≡ last_event deck = omega arith in
    let at : StopsAt deck (last_event deck) = subst (StopsAt deck) same stops in
    let many : suc (length (later_events deck)) ≡ last_event deck + 1 = omega arith in
    record {
      events = events-are deck ∙ follow-range deck 0 (later_events deck) f ∙ ap (λ n. range_with_len 0 n) many;
      there = λ event le. comes-some deck event (follow-there deck 0 (later_events deck) f event (omega arith) (omega arith));
      goes_on = λ event lt. follow-on deck 0 (later_events deck) f event (omega arith) (omega arith);
      stops = ap is_some at.is;
    }

-- the end of the time samples of a run that stops at an event
abbrev pub end_at : Deck → ℕ → ℕ
end_at deck event = option_map_or (λ stop. end_of_samples deck.plan (time_of deck event) stop) (stop_of deck event) 0

pub end-is : (deck : Deck) → end_of_run deck ≡ end_at deck (length (later_events deck))
end-is deck = ap (end_at deck) (last-is deck)

pub later-are : (deck : Deck) → later_times deck ≡ map (time_of deck) (later_events deck)
later-are deck = ap (λ (es : List ℕ). drop 1 (map (time_of deck) es)) (events-are deck)

at-last : (time : ℕ) (most : Option ℕ) → time ≤ unwrap_or most END_OF_TIME → time ≤ unwrap_or most time
at-last time None le = omega arith
at-last time (Some most) le = le

-- the samples of a run that stops end no earlier than its last event
before-end : (plan : Plan) (time : ℕ) (stop : Stop) → time ≤ end_of_time plan → time ≤ end_of_samples plan time stop
before-end plan time Samples le = omega arith
before-end plan time Steps le = omega arith
before-end plan time Still le = at-last time plan.max_time le
before-end plan time Horizon le = at-last time plan.max_time le

last-before-end : (deck : Deck) (event : ℕ) → StopsAt deck event → time_of deck event ≤ end_of_time deck.plan → time_of deck event ≤ end_at deck event
last-before-end deck event stops le =
    subst (λ (o : Option Stop). time_of deck event ≤ option_map_or (λ stop. end_of_samples deck.plan (time_of deck event) stop) o 0)
    (sym stops.is) (before-end deck.plan (time_of deck event) stops.stop le)

-- the times of the events that follow one never fall
follow-falls : (deck : Deck) (event : ℕ) (rest : List ℕ) (end : ℕ) → Follow deck event rest → end ≡ end_at deck (event + length rest)
    → time_of deck event ≤ end_of_time deck.plan → NeverFalls (time_of deck event) (map (time_of deck) rest) end
follow-falls deck event [] end f is le =
    let last : time_of deck event ≤ end_at deck event = last-before-end deck event f.1 le in
    let none : event + 0 ≡ event = omega arith in
    let same : end ≡ end_at deck event = is ∙ ap (end_at deck) none in
    subst (λ (n : ℕ). time_of deck event ≤ n) (sym same) last
follow-falls deck event (next ∷ rest) end f is le =
    let here : event + 1 ≡ next = sym f.1.is in
    let up : time_of deck event ≤ time_of deck next = subst (λ (n : ℕ). time_of deck event ≤ time_of deck n) here (next-not-before deck event f.1.on) in
    let in_time : time_of deck next ≤ end_of_time deck.plan
    = subst (λ (n : ℕ). time_of deck n ≤ end_of_time deck.plan) here (next-in_time deck event f.1.on) in
    let next_is : next ≡ event + 1 = f.1.is in
    let one : event + suc (length rest) ≡ next + length rest = omega arith in
    let same : end ≡ end_at deck (next + length rest) = is ∙ ap (end_at deck) one in
    (up, follow-falls deck next rest end f.2 same in_time)

pub run_never_falls : RunNeverFalls
run_never_falls deck =
    let zero_more : length (later_events deck) ≡ 0 + length (later_events deck) = omega arith in
    let same : end_of_run deck ≡ end_at deck (0 + length (later_events deck)) = end-is deck ∙ ap (end_at deck) zero_more in
    subst (λ (ts : List ℕ). NeverFalls 0 ts (end_of_run deck)) (sym (later-are deck))
    (follow-falls deck 0 (later_events deck) (end_of_run deck) (follow-start deck) same (start-in_time deck))
