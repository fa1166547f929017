-- The times of the events of a run.
use Rattle.std.proofs.Common.{◌≡◌, ℕ, suc, ◌+◌, ◌≤◌, Option, None, Some, refl, sym, ap, subst, ◌∙◌, arith}
use Rattle.std.specs.Option.{option_map, option_map_or}
use Rattle.std.proofs.lemmas.Option.{none-some}
use Rattle.std.specs.Prelude.{IsSomeAnd, option_and_then, unwrap_or}
use Rattle.deck.specs.Soundness.{IsSound}
use Rattle.deck.specs.declared.deck.Deck.{Deck}
use Rattle.kmc_base.specs.Entries.{least}
use Rattle.kmc_base.specs.declared.entry.Firing.{Firing}
use Rattle.kmc_base.specs.declared.limits.TheConstants.{END_OF_TIME}
use Rattle.kmc_core.proofs.TimesNeverFall.{next-event}
use Rattle.kmc_core.specs.DeckSystem.{DeckState, system_of, trajectory_of}
use Rattle.kmc_core.specs.Run.{stop_of, time_of_first}
use Rattle.kmc_report.proofs.SampleNumbers.{below-zero}
use Rattle.kmc_report.specs.Sampler.{SamplerState, given_before, none_given}
use Rattle.kmc_report.specs.Stops.{end_of_samples, end_of_time, stop_at}
use Rattle.kmc_report.specs.declared.stop.Stop.{Stop}
use Rattle.kmc_report.specs.declared.stop.Stop.TheVariants.{Samples, Steps, Still, Horizon}
use Rattle.kmc_run.specs.Given.{given_all}
use Rattle.kmc_run.specs.Samples.{shown_until, time_of}
use Rattle.run_plan.specs.Soundness.{IsPeriod}
use Rattle.run_plan.specs.declared.plan.Plan.{Plan}
use Rattle.run_plan.specs.declared.plan.Sampling.{Sampling}
use Rattle.run_plan.specs.declared.plan.Sampling.TheVariants.{Off, Event, Time}
use Rattle.trajectory.specs.Trajectory.{Snapshot, fired, next}

-- a run that goes on has a next time, which is not after its greatest time
goes-on-none : (plan : Plan) (event time : ℕ) → stop_at plan event time None ≡ None → ⊥
goes-on-none plan event time is = grind (arith)

goes-on-some : (plan : Plan) (event time least : ℕ) → stop_at plan event time (Some least) ≡ None → least ≤ end_of_time plan
goes-on-some plan event time least is = grind (arith)

-- the next event of a run that goes on
pub record NextEvent (deck : Deck) (event : ℕ) (s : Snapshot DeckState) : Type 0 where
  pub snapshot : Snapshot DeckState
  pub is : trajectory_of deck (event + 1) ≡ Some snapshot
  pub in_time : snapshot.time ≤ end_of_time deck.plan

next-is : (deck : Deck) (event : ℕ) (s : Snapshot DeckState) (first : Firing) → trajectory_of deck event ≡ Some s → least s.entries ≡ Some first
    → trajectory_of deck (event + 1) ≡ Some (fired (system_of deck) deck.plan.seed (suc event) s first)
next-is deck event s first e m =
    let one : event + 1 ≡ suc event = omega arith in
    ap (trajectory_of deck) one
    ∙ (ap (option_and_then (next (system_of deck) deck.plan.seed (suc event))) e
    ∙ ap (option_map (fired (system_of deck) deck.plan.seed (suc event) s)) m)

pub next-of : (deck : Deck) (event : ℕ) (s : Snapshot DeckState) → trajectory_of deck event ≡ Some s → stop_of deck event ≡ None
    → NextEvent deck event s
next-of deck event s e is =
    let stop : Option ℕ → Option Stop = stop_at deck.plan event s.time in
    let on : stop (time_of_first (least s.entries)) ≡ None
    = sym (ap (option_and_then (λ (t : Snapshot DeckState).
    stop_at deck.plan event t.time (time_of_first (least t.entries)))) e) ∙ is in
    elim (least s.entries) as (λ l. least s.entries ≡ l → stop (time_of_first l) ≡ None → NextEvent deck event s) [
      | None ↦ λ m go. absurd (goes-on-none deck.plan event s.time go)
      | Some first ↦ λ m go. record {
        snapshot = fired (system_of deck) deck.plan.seed (suc event) s first;
        is = next-is deck event s first e m;
        in_time = goes-on-some deck.plan event s.time first.time go;
      }
    ] refl on

time-of : (deck : Deck) (event : ℕ) (s : Snapshot DeckState) → trajectory_of deck event ≡ Some s → time_of deck event ≡ s.time
time-of deck event s e = ap (λ o. option_map_or (λ (t : Snapshot DeckState). t.time) o 0) e

time-none : (deck : Deck) (event : ℕ) → trajectory_of deck event ≡ None → time_of deck event ≡ 0
time-none deck event e = ap (λ o. option_map_or (λ (t : Snapshot DeckState). t.time) o 0) e

-- the next event is in time
pub next-in_time : (deck : Deck) (event : ℕ) → stop_of deck event ≡ None → time_of deck (event + 1) ≤ end_of_time deck.plan
next-in_time deck event is =
    elim (trajectory_of deck event) as (λ o. trajectory_of deck event ≡ o → time_of deck (event + 1) ≤ end_of_time deck.plan) [
      | None ↦ λ e.
          let one : event + 1 ≡ suc event = omega arith in
          let none : time_of deck (event + 1) ≡ 0 = time-none deck (event + 1)
          (ap (trajectory_of deck) one ∙ ap (option_and_then (next (system_of deck) deck.plan.seed (suc event))) e) in
          omega (arith, none)
      | Some s ↦ λ e.
          let n = next-of deck event s e is in
          let t : time_of deck (event + 1) ≡ n.snapshot.time = time-of deck (event + 1) n.snapshot n.is in
          let le : n.snapshot.time ≤ end_of_time deck.plan = n.in_time in
          subst (λ (k : ℕ). k ≤ end_of_time deck.plan) (sym t) le
    ] refl

-- and not before the present one
pub next-not-before : (deck : Deck) (event : ℕ) → stop_of deck event ≡ None → time_of deck event ≤ time_of deck (event + 1)
next-not-before deck event is =
    elim (trajectory_of deck event) as (λ o. trajectory_of deck event ≡ o → time_of deck event ≤ time_of deck (event + 1)) [
      | None ↦ λ e. let none : time_of deck event ≡ 0 = time-none deck event e in omega (arith, none)
      | Some s ↦ λ e.
          let n = next-of deck event s e is in
          let a : time_of deck event ≡ s.time = time-of deck event s e in
          let b : time_of deck (event + 1) ≡ n.snapshot.time = time-of deck (event + 1) n.snapshot n.is in
          let le : s.time ≤ n.snapshot.time = next-event deck event s n.snapshot e n.is in
          omega (arith, a, b, le)
    ] refl

at-end : (time : ℕ) (most : Option ℕ) → time ≤ unwrap_or most END_OF_TIME → time ≤ unwrap_or most time + 1
at-end time None le = omega arith
at-end time (Some most) le = omega (arith, le)

at-stop : (plan : Plan) (time : ℕ) (stop : Stop) → time ≤ end_of_time plan → time ≤ end_of_samples plan time stop + 1
at-stop plan time Samples le = omega arith
at-stop plan time Steps le = omega arith
at-stop plan time Still le = at-end time plan.max_time le
at-stop plan time Horizon le = at-end time plan.max_time le

-- the time samples that show an event begin at its time and end no earlier
pub until-after : (deck : Deck) (event : ℕ) → time_of deck event ≤ end_of_time deck.plan → time_of deck event ≤ shown_until deck event
until-after deck event le =
    elim (stop_of deck event) as (λ o. stop_of deck event ≡ o → time_of deck event
    ≤ option_map_or (λ stop. end_of_samples deck.plan (time_of deck event) stop + 1) o (time_of deck (event + 1))) [
      | None ↦ λ e. next-not-before deck event e
      | Some stop ↦ λ e. at-stop deck.plan (time_of deck event) stop le
    ] refl

-- where the run goes on, they end at the time of the next event
pub until-next : (deck : Deck) (event : ℕ) → stop_of deck event ≡ None → shown_until deck event ≡ time_of deck (event + 1)
until-next deck event is =
    ap (λ o. option_map_or (λ (stop : Stop). end_of_samples deck.plan (time_of deck event) stop + 1) o (time_of deck (event + 1))) is

-- the start is in time
pub start-in_time : (deck : Deck) → time_of deck 0 ≤ end_of_time deck.plan
start-in_time deck = let none : time_of deck 0 ≡ 0 = refl in omega (arith, none)

-- the time of the next event, by the first firing
pub next_time : (o : Option (Snapshot DeckState)) (next : Option (ℕ × ℕ))
    → IsSomeAnd o (λ s. next ≡ option_map (λ (first : Firing). (first.time, first.code)) (least s.entries))
    → IsSomeAnd o (λ s. option_map (λ (both : ℕ × ℕ). both.0) next ≡ time_of_first (least s.entries))
next_time None next is = absurd is
next_time (Some s) next is =
    elim (least s.entries) as (λ l. next ≡ option_map (λ (first : Firing). (first.time, first.code)) l
    → option_map (λ (both : ℕ × ℕ). both.0) next ≡ time_of_first l) [
      | None ↦ λ e. ap (option_map (λ (both : ℕ × ℕ). both.0)) e
      | Some first ↦ λ e. ap (option_map (λ (both : ℕ × ℕ). both.0)) e
    ] is

-- why the run stops, by what was read from it
stop_by : (deck : Deck) (plan : Plan) (event read time : ℕ) (next : Option ℕ) (o : Option (Snapshot DeckState)) → plan ≡ deck.plan → read ≡ event
    → IsSomeAnd o (λ s. time ≡ s.time) → IsSomeAnd o (λ s. next ≡ time_of_first (least s.entries))
    → stop_at plan read time next
    ≡ option_and_then (λ (s : Snapshot DeckState). stop_at deck.plan event s.time (time_of_first (least s.entries))) o
stop_by deck plan event read time next None p q t n = absurd t
stop_by deck plan event read time next (Some s) p q t n = λ i. stop_at (p i) (q i) (t i) (n i)

pub stop_is : (deck : Deck) (plan : Plan) (event read time : ℕ) (next : Option ℕ) (stop : Option Stop) → plan ≡ deck.plan → read ≡ event
    → IsSomeAnd (trajectory_of deck event) (λ s. time ≡ s.time)
    → IsSomeAnd (trajectory_of deck event) (λ s. next ≡ time_of_first (least s.entries))
    → stop ≡ stop_at plan read time next → stop_of deck event ≡ stop
stop_is deck plan event read time next stop p q t n is = sym (is ∙ stop_by deck plan event read time next (trajectory_of deck event) p q t n)

-- the time samples of a run that stops
pub until_stop : (deck : Deck) (plan : Plan) (event time : ℕ) (stop : Stop) → plan ≡ deck.plan → time ≡ time_of deck event
    → stop_of deck event ≡ Some stop → end_of_samples plan time stop + 1 ≡ shown_until deck event
until_stop deck plan event time stop p t is =
    (λ i. end_of_samples (p i) (t i) stop + 1)
    ∙ sym (ap (λ o. option_map_or (λ (r : Stop). end_of_samples deck.plan (time_of deck event) r + 1) o (time_of deck (event + 1))) is)

-- and of one that goes on
next_is-time : (deck : Deck) (event time : ℕ) → IsSomeAnd (trajectory_of deck event) (λ s. Some time ≡ time_of_first (least s.entries))
    → time ≡ time_of deck (event + 1)
next_is-time deck event time is =
    elim (trajectory_of deck event) as (λ o. trajectory_of deck event ≡ o → IsSomeAnd o (λ s. Some time ≡ time_of_first (least s.entries))
    → time ≡ time_of deck (event + 1)) [
      | None ↦ λ e h. absurd h
      | Some s ↦ λ e h. elim (least s.entries) as (λ l. least s.entries ≡ l → Some time ≡ time_of_first l → time ≡ time_of deck (event + 1)) [
        | None ↦ λ m k. absurd (none-some time (sym k))
        | Some first ↦ λ m k.
            let same : time ≡ first.time = cc in
            same ∙ sym (time-of deck (event + 1) (fired (system_of deck) deck.plan.seed (suc event) s first) (next-is deck event s first e m))
      ] refl h
    ] refl is

pub until_time : (deck : Deck) (event time : ℕ) → stop_of deck event ≡ None
    → IsSomeAnd (trajectory_of deck event) (λ s. Some time ≡ time_of_first (least s.entries)) → time ≡ shown_until deck event
until_time deck event time go is = next_is-time deck event time is ∙ sym (until-next deck event go)

-- the sampler at the start has given nothing
given-zero : (sampling : Sampling) → IsPeriod sampling → 0 ≡ given_before sampling 0 0
given-zero Off period = refl
given-zero (Event n) period = sym (below-zero n period.0)
given-zero (Time d) period = sym (below-zero d period.0)

pub sampler_start : (deck read : Deck) (sampler : SamplerState) (event : ℕ) → read ≡ deck → IsSound read → event ≡ 0
    → sampler ≡ record { plan = read.plan; given = none_given } → sampler ≡ given_all deck.plan event (time_of deck event)
sampler_start deck read sampler event same sound start is =
    is
    ∙ ((λ i. record {
      plan = read.plan;
      given = record {
        history = given-zero read.plan.history sound.plan.history i;
        procstat = given-zero read.plan.procstat sound.plan.procstat i;
        specnum = given-zero read.plan.specnum sound.plan.specnum i;
      };
    })
    ∙ (λ i. given_all (same i).plan (sym start i) (time_of (same i) (sym start i))))

pub start_time : (deck : Deck) (event : ℕ) → event ≡ 0 → time_of deck event ≤ end_of_time deck.plan
start_time deck event start = subst (λ (n : ℕ). time_of deck n ≤ end_of_time deck.plan) (sym start) (start-in_time deck)

-- the sampler and the time at the next event
pub sampler_next : (deck now : Deck) (sampler : SamplerState) (event next : ℕ) → now ≡ deck → next ≡ event + 1 → stop_of deck event ≡ None
    → sampler ≡ given_all deck.plan (event + 1) (shown_until deck event) → sampler ≡ given_all now.plan next (time_of now next)
sampler_next deck now sampler event next same later go is =
    is ∙ (ap (given_all deck.plan (event + 1)) (until-next deck event go)
    ∙ (λ i. given_all (sym same i).plan (sym later i) (time_of (sym same i) (sym later i))))

pub next_in_time : (deck now : Deck) (event next : ℕ) → now ≡ deck → next ≡ event + 1 → stop_of deck event ≡ None
    → time_of now next ≤ end_of_time now.plan
next_in_time deck now event next same later go =
    subst (λ (d : Deck). time_of d next ≤ end_of_time d.plan) (sym same)
    (subst (λ (n : ℕ). time_of deck n ≤ end_of_time deck.plan) (sym later) (next-in_time deck event go))
