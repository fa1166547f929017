-- What holds of a run of a sound deck at each event that its trajectory comes to.
use Rattle.std.proofs.Common.{◌≡◌, ℕ, zero, suc, ℤ, ◌≤◌, List, [], ◌∷◌, Option, None, Some, length}
use Rattle.std.proofs.Common.{refl, sym, ap, subst, ◌∙◌, arith}
use Rattle.std.proofs.lemmas.List.{length-replicate}
use Rattle.std.proofs.lemmas.List.Elements.{All-contains_itself, recursion_from_All}
use Rattle.std.specs.List.{AllByRecursion, Contains}
use Rattle.std.specs.Option.{option_map}
use Rattle.std.specs.Prelude.{option_and_then, IfSome, IsSomeAnd, ◌-◌, slice_get}
use Rattle.firing.specs.Sides.{states_for}
use Rattle.firing.proofs.Placed.{with-length}
use Rattle.kmc_base.specs.Entries.{IsRising, codes_of, least}
use Rattle.kmc_base.specs.declared.entry.Entry.{Entry}
use Rattle.kmc_base.specs.declared.entry.Firing.{Firing}
use Rattle.kmc_base.specs.declared.limits.TheConstants.{END_OF_TIME}
use Rattle.rate_rules.proofs.Instances.{offers-well}
use Rattle.rate_rules.proofs.OfferedInstances.{codes_offered}
use Rattle.kmc_core.proofs.RenewedEntries.{IsFiringOf, IsInTime, ap2, codes-renewed, least-one, renewed-in_time}
use Rattle.kmc_core.specs.DeckSystem.{DeckState, opening, system_of, trajectory_of}
use Rattle.kmc_core.specs.Run.{ClosedRun, IsClosedAt, IsListedAt, IsOpenAt}
use Rattle.trajectory.specs.Trajectory.{Snapshot, System, fired, next, renewed, start, trajectory}
use Rattle.lattice_core.specs.Lattice.{site_count}
use Rattle.lattice_core.specs.declared.state.State.{State}
use Rattle.rate_rules.specs.System.{fired_by, fired_on, fires as states_after, process_of, sites_of}
use Rattle.rate_rules.specs.declared.chemistry.Chemistry.{Chemistry}
use Rattle.rate_rules.specs.declared.chemistry.Process.{Process}
use Rattle.deck.specs.Soundness.{IsSound, dentates_in}
use Rattle.deck.specs.declared.deck.Deck.{Deck}

-- the event before one that the trajectory comes to, and what fired there
pub record CameFrom {S : Type 0} (system : System S) (seed : ℕ) (first : S) (n : ℕ) (now : Snapshot S) : Type 0 where
  pub old : Snapshot S
  pub before : trajectory system seed first n ≡ Some old
  pub fires : Firing
  pub least : least old.entries ≡ Some fires
  pub is : fired system seed (suc n) old fires ≡ now

pub came_from : {S : Type 0} (system : System S) (seed : ℕ) (first : S) (n : ℕ) (now : Snapshot S)
    → trajectory system seed first (suc n) ≡ Some now → CameFrom system seed first n now
came_from {S} system seed first n now e =
    elim (trajectory system seed first n) as (λ t. trajectory system seed first n ≡ t
    → option_and_then (next system seed (suc n)) t ≡ Some now
    → CameFrom system seed first n now) [
      | None ↦ λ b h. cc
      | Some old ↦ λ b h. elim (least old.entries) as (λ l. least old.entries ≡ l
          → option_map (fired system seed (suc n) old) l ≡ Some now → CameFrom system seed first n now) [
            | None ↦ λ m g. cc
            | Some fires ↦ λ m g. record { old = old; before = b; fires = fires; least = m; is = cc }
          ] refl h
    ] refl e

-- what holds at each event
pub record IsWell (deck : Deck) (s : Snapshot DeckState) : Type 0 where
  pub sites : length s.state.states ≡ site_count deck.chem.graph
  pub time : s.time ≤ END_OF_TIME
  pub codes : codes_of s.entries ≡ codes_offered deck.chem s.state.states
  pub times : AllByRecursion (λ e. IsInTime e.when) s.entries

-- the entries of a state with the deck's number of sites
well-renewed : (deck : Deck) (event time : ℕ) (fired : Option ℕ) (old : List Entry) (state : DeckState) →
    length state.states ≡ site_count deck.chem.graph → time ≤ END_OF_TIME → AllByRecursion (λ e. IsInTime e.when) old →
    IsWell deck (record { state = state; time = time; entries = renewed deck.plan.seed event time fired old ((system_of deck).offers state) })
well-renewed deck event time fired old state len in_time all = record {
  sites = len;
  time = in_time;
  codes = codes-renewed deck.plan.seed event time fired old ((system_of deck).offers state);
  times = renewed-in_time deck.plan.seed event time fired old ((system_of deck).offers state) all;
}

-- the first firing is in time, and its code is that of an instance
pub record IsFirstOf (deck : Deck) (states : List State) (first : Firing) : Type 0 where
  pub time : first.time ≤ END_OF_TIME
  pub offered : Contains (codes_offered deck.chem states) first.code

all-both : (P : ℕ → Type 0) (Q : Entry → Type 0) (es : List Entry) → AllByRecursion P (codes_of es)
    → AllByRecursion Q es → AllByRecursion (λ e. P e.code × Q e) es
all-both P Q [] p q = tt
all-both P Q (e ∷ es) p q = ((p.0, q.0), all-both P Q es p.1 q.1)

pub first-well : (deck : Deck) (s : Snapshot DeckState) (first : Firing) → IsWell deck s
    → least s.entries ≡ Some first → IsFirstOf deck s.state.states first
first-well deck s first well is =
    let codes : List ℕ = codes_of s.entries in
    let listed : AllByRecursion (Contains codes) codes = recursion_from_All (Contains codes) codes (All-contains_itself codes) in
    let one : IsFiringOf (λ e. Contains codes e.code × IsInTime e.when) first =
    subst (λ (o : Option Firing). IfSome o (IsFiringOf (λ e. Contains codes e.code × IsInTime e.when))) is
    (least-one (λ e. Contains codes e.code × IsInTime e.when) s.entries
    (all-both (Contains codes) (λ e. IsInTime e.when) s.entries listed well.times)) in
    record {
      time = subst IsInTime one.2 one.1.1;
      offered = subst (λ (cs : List ℕ). Contains cs first.code) well.codes (subst (λ (n : ℕ). Contains codes n) one.3 one.1.0);
    }

-- the state after an event has as many sites
fired_on-length : (states : List State) (process : Process) (sites : Option (List ℕ)) → length (fired_on states process sites) ≡ length states
fired_on-length states process None = refl
fired_on-length states process (Some sites) = with-length (states_for process.after sites) states

fired_by-length : (chemistry : Chemistry) (states : List State) (code : ℕ) (process : Option Process)
    → length (fired_by chemistry states code process) ≡ length states
fired_by-length chemistry states code None = refl
fired_by-length chemistry states code (Some process) = fired_on-length states process (sites_of chemistry states process code)

pub fires-length : (chemistry : Chemistry) (states : List State) (code : ℕ) → length (states_after chemistry states code) ≡ length states
fires-length chemistry states code = fired_by-length chemistry states code (slice_get chemistry.processes (process_of code))

pub well-fired : (deck : Deck) (event : ℕ) (old : Snapshot DeckState) (first : Firing) → IsWell deck old → least old.entries ≡ Some first →
    IsWell deck (fired (system_of deck) deck.plan.seed event old first)
well-fired deck event old first well is =
    well-renewed deck event first.time (Some first.code) old.entries ((system_of deck).fires old.state first.code)
    (fires-length deck.chem old.state.states first.code ∙ well.sites) (first-well deck old first well is).time well.times

pub well-start : (deck : Deck) → IsWell deck (start (system_of deck) deck.plan.seed (opening deck))
well-start deck = well-renewed deck 0 0 None [] (opening deck) (simp length-replicate) (omega arith) tt

-- each event that the trajectory comes to is well
pub well-at : (deck : Deck) (n : ℕ) (s : Snapshot DeckState) → trajectory_of deck n ≡ Some s → IsWell deck s
well-at deck zero s e = let is : start (system_of deck) deck.plan.seed (opening deck) ≡ s = cc in subst (IsWell deck) is (well-start deck)
well-at deck (suc n) s e =
    let came = came_from (system_of deck) deck.plan.seed (opening deck) n s e in
    subst (IsWell deck) came.is (well-fired deck (suc n) came.old came.fires (well-at deck n came.old came.before) came.least)

-- what a closed run is at is well
pub closed-well : (deck : Deck) (event : ℕ) (s : Snapshot DeckState) (total : ℤ) → IsClosedAt deck event s total → IsWell deck s
closed-well deck event s total closed = well-at deck event s closed.state

-- what comes first in a closed run comes first among its entries
pub came_first : (deck : Deck) (event : ℕ) (s : Snapshot DeckState) (total : ℤ) (first : Firing) (run : ClosedRun)
    → record { deck = deck; event = event } ≡ run →
    IsClosedAt deck event s total → IsSomeAnd (trajectory_of run.deck run.event) (λ t. least t.entries ≡ Some first) → least s.entries ≡ Some first
came_first deck event s total first run is closed h =
    subst (λ (o : Option (Snapshot DeckState)). IsSomeAnd o (λ t. least t.entries ≡ Some first)) closed.state
    (subst (λ (r : ClosedRun). IsSomeAnd (trajectory_of r.deck r.event) (λ t. least t.entries ≡ Some first)) (sym is) h)

-- an open run holds the old entries, in order; what has fired is in time; and it has the deck's number of sites
pub record IsOpenWell (deck : Deck) (first : Firing) (states : List State) (entries : List Entry) : Type 0 where
  pub sound : IsSound deck
  pub time : first.time ≤ END_OF_TIME
  pub rising : IsRising (codes_of entries)
  pub sites : length states ≡ site_count deck.chem.graph

pub open-well : (deck : Deck) (event : ℕ) (first : Firing) (state : DeckState) (entries next : List Entry) (total : Option ℤ) →
    IsOpenAt deck event first state entries next total → IsOpenWell deck first state.states entries
open-well deck event first state entries next total o =
    let well = closed-well deck (event - 1) o.old o.old_total o.closed in
    let came : least o.old.entries ≡ Some first = ap least o.old_entries ∙ o.came_first in
    let codes : codes_of entries ≡ codes_offered deck.chem o.old.state.states = ap codes_of (sym o.old_entries) ∙ well.codes in
    record {
      sound = o.closed.sound;
      time = (first-well deck o.old first well came).time;
      rising = subst IsRising (sym codes) (offers-well (dentates_in deck.book) deck.chem o.closed.sound.chemistry o.old.state.states).rising;
      sites = ap (λ (s : DeckState). length s.states) o.fired_state ∙ (fires-length deck.chem o.old.state.states first.code ∙ well.sites);
    }

-- the event after one that the trajectory comes to, if something fires there
goes_to : {S : Type 0} (system : System S) (seed : ℕ) (state : S) (n event : ℕ) (old : Snapshot S) (first : Firing) → suc n ≡ event →
    trajectory system seed state n ≡ Some old → least old.entries ≡ Some first
    → trajectory system seed state event ≡ Some (fired system seed event old first)
goes_to {S} system seed state n event old first is at came =
    subst (λ (m : ℕ). trajectory system seed state m ≡ Some (fired system seed m old first)) is
    (ap (option_and_then (next system seed (suc n))) at
    ∙ ap (option_map (fired system seed (suc n) old)) came)

-- an open run that is listed is at its event
pub closes : (deck : Deck) (event : ℕ) (first : Firing) (state : DeckState) (entries next : List Entry) (found : Option ℤ) (total : ℤ) →
    IsOpenAt deck event first state entries next found → found ≡ Some total
    → IsClosedAt deck event (record { state = state; time = first.time; entries = next }) total
closes deck event first state entries next found total o is =
    let listed : IsListedAt deck event first state entries next total =
    subst (λ (x : Option ℤ). IfSome x (IsListedAt deck event first state entries next)) is o.listed in
    let came : least o.old.entries ≡ Some first = ap least o.old_entries ∙ o.came_first in
    record {
      sound = o.closed.sound;
      allowed = o.allowed;
      state = goes_to (system_of deck) deck.plan.seed (opening deck) (event - 1) event o.old first (omega (arith, o.some)) o.closed.state came
          ∙ ap2 (λ (s : DeckState) (es : List Entry). Some (record { state = s; time = first.time; entries = es })) (sym o.fired_state)
          (ap2 (λ (es : List Entry) (s : DeckState). renewed deck.plan.seed event first.time (Some first.code) es
          ((system_of deck).offers s)) o.old_entries (sym o.fired_state) ∙ sym listed.next_entries);
      within = o.within;
      energy = listed.energy;
      range = listed.range;
    }

-- what fires first in a closed run
pub fires_first : (deck : Deck) (event : ℕ) (s : Snapshot DeckState) (total : ℤ) (first : Firing) (run : ClosedRun)
    → record { deck = deck; event = event } ≡ run →
    IsClosedAt deck event s total → IsSomeAnd (trajectory_of run.deck run.event) (λ t. least t.entries ≡ Some first)
    → IsFirstOf deck s.state.states first
fires_first deck event s total first run is closed h =
    first-well deck s first (closed-well deck event s total closed) (came_first deck event s total first run is closed h)
