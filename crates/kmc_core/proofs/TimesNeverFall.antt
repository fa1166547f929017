-- Time never falls, in the trajectory of any system: no entry has a time before that of the event.
use Rattle.std.proofs.Common.{◌≡◌, ℕ, zero, suc, ◌+◌, ◌≤◌, true, false, cond, List, [], ◌∷◌, Option, None, Some, refl, ap, subst, arith}
use Rattle.std.proofs.lemmas.Option.{IfSome_then}
use Rattle.std.specs.List.{AllByRecursion}
use Rattle.std.specs.Prelude.{IfSome}
use Rattle.deck.specs.declared.deck.Deck.{Deck}
use Rattle.fixed_math.specs.WaitingTime.{IsLater, time_of}
use Rattle.fixed_math.proofs.TimeLemmas.{time_of-later}
use Rattle.kmc_base.specs.Entries.{comes_before, entry_at, first_of_two, firing_at, firing_of, least}
use Rattle.kmc_base.specs.declared.entry.Entry.{Entry}
use Rattle.kmc_base.specs.declared.entry.Firing.{Firing}
use Rattle.kmc_base.specs.declared.firing_time.When.{When}
use Rattle.kmc_base.specs.declared.firing_time.When.TheVariants.{At, Never}
use Rattle.kmc_core.proofs.RenewedEntries.{IsFiringOf, chosen-either, found-one, least-one}
use Rattle.kmc_core.proofs.Runs.{came_from}
use Rattle.kmc_core.specs.DeckSystem.{DeckState, opening, system_of, trajectory_of}
use Rattle.named_draws.specs.Draw.{draw}
use Rattle.trajectory.specs.Trajectory.{Snapshot, System, fresh, renewed, start, trajectory}
use Rattle.trajectory.specs.declared.instance.Instance.{Instance}

-- a time is not before another, if there is one
abbrev pub NotBefore : ℕ → When → Type 0
NotBefore now (At t) = now ≤ t
NotBefore now Never = Unit {0}

-- a firing comes no later than a time; where there is no firing, there is no time
abbrev ComesBy : Option Firing → When → Type 0
ComesBy None (At t) = ⊥
ComesBy None Never = Unit {0}
ComesBy (Some first) w = NotBefore first.time w

not-before-later : (now later : ℕ) (w : When) → now ≤ later → NotBefore later w → NotBefore now w
not-before-later now later (At t) le is = omega (arith, is)
not-before-later now later Never le is = tt

comes-by-none : (b : Option Firing) (w : When) → ComesBy None w → ComesBy b w
comes-by-none b (At t) is = absurd is
comes-by-none None Never is = tt
comes-by-none (Some b) Never is = tt

before-time : (a b : Firing) → comes_before b a ≡ true → b.time ≤ a.time
before-time a b is = grind (arith)

not-before-time : (a b : Firing) → comes_before b a ≡ false → a.time ≤ b.time
not-before-time a b is = grind (arith)

-- the first of two comes by what either comes by
comes-left : (a b : Option Firing) (w : When) → ComesBy a w → ComesBy (first_of_two a b) w
comes-left None b w is = comes-by-none b w is
comes-left (Some a) None w is = is
comes-left (Some a) (Some b) w is =
    elim (comes_before b a) as (λ t. comes_before b a ≡ t → ComesBy (cond t (Some b) (Some a)) w) [
      | true ↦ λ e. not-before-later b.time a.time w (before-time a b e) is
      | false ↦ λ e. is
    ] refl

comes-right : (a b : Option Firing) (w : When) → ComesBy b w → ComesBy (first_of_two a b) w
comes-right None b w is = is
comes-right (Some a) None w is = comes-by-none (Some a) w is
comes-right (Some a) (Some b) w is =
    elim (comes_before b a) as (λ t. comes_before b a ≡ t → ComesBy (cond t (Some b) (Some a)) w) [
      | true ↦ λ e. is
      | false ↦ λ e. not-before-later a.time b.time w (not-before-time a b e) is
    ] refl

firing-by : (w : When) (code : ℕ) → ComesBy (firing_at w code) w
firing-by (At t) code = omega arith
firing-by Never code = tt

all-right : (a b : Option Firing) (es : List Entry) → AllByRecursion (λ e. ComesBy b e.when) es
    → AllByRecursion (λ e. ComesBy (first_of_two a b) e.when) es
all-right a b [] all = tt
all-right a b (e ∷ es) all = (comes-right a b e.when all.0, all-right a b es all.1)

-- the first firing comes by the time of each entry
least-by : (es : List Entry) → AllByRecursion (λ e. ComesBy (least es) e.when) es
least-by [] = tt
least-by (e ∷ es) = (comes-left (firing_of e) (least es) e.when (firing-by e.when e.code), all-right (firing_of e) (least es) es (least-by es))

after-first : (es : List Entry) (first : Firing) → least es ≡ Some first → AllByRecursion (λ e. NotBefore first.time e.when) es
after-first es first is = subst (λ (o : Option Firing). AllByRecursion (λ e. ComesBy o e.when) es) is (least-by es)

later-not-before : (now : ℕ) (w : When) → IsLater now w → NotBefore now w
later-not-before now (At t) later = omega (arith, later.0)
later-not-before now Never later = tt

-- entries that are renewed at a time which no old entry is before are not before it
renewed-after : (seed event time : ℕ) (fired : Option ℕ) (old : List Entry) (offers : List Instance)
    → AllByRecursion (λ e. NotBefore time e.when) old → AllByRecursion (λ e. NotBefore time e.when) (renewed seed event time fired old offers)
renewed-after seed event time fired old [] all = tt
renewed-after seed event time fired old (o ∷ offers) all = (
  chosen-either (λ e. NotBefore time e.when) fired (entry_at o.code old) (fresh seed event time o)
      (IfSome_then (entry_at o.code old) (found-one (λ e. NotBefore time e.when) o.code old all) (λ e q. q.0))
      (later-not-before time (time_of o.lg (draw seed event o.code) time) (time_of-later o.lg (draw seed event o.code) time)),
  renewed-after seed event time fired old offers all,
)

-- no entry of a snapshot is before its time
abbrev pub AreAfter : {S : Type 0} → Snapshot S → Type 0
AreAfter s = AllByRecursion (λ e. NotBefore s.time e.when) s.entries

pub entries-after : {S : Type 0} (system : System S) (seed : ℕ) (first : S) (n : ℕ) (s : Snapshot S)
    → trajectory system seed first n ≡ Some s → AreAfter s
entries-after {S} system seed first zero s e =
    let is : start system seed first ≡ s = cc in
    subst (AreAfter {S = S}) is (renewed-after seed 0 0 None [] (system.offers first) tt)
entries-after {S} system seed first (suc n) s e =
    let came = came_from system seed first n s e in
    subst (AreAfter {S = S}) came.is (renewed-after seed (suc n) came.fires.time (Some came.fires.code) came.old.entries
    (system.offers (system.fires came.old.state came.fires.code)) (after-first came.old.entries came.fires came.least))

-- what fires next is not before the time of the event
pub first-after : {S : Type 0} (s : Snapshot S) (first : Firing) → AreAfter s → least s.entries ≡ Some first → s.time ≤ first.time
first-after {S} s first after is =
    let one : IsFiringOf (λ e. NotBefore s.time e.when) first =
    subst (λ (o : Option Firing). IfSome o (IsFiringOf (λ e. NotBefore s.time e.when))) is
    (least-one (λ e. NotBefore s.time e.when) s.entries after) in
    subst (NotBefore s.time) one.2 one.1

-- the next event is not before it
pub next-after : {S : Type 0} (system : System S) (seed : ℕ) (first : S) (n : ℕ) (s next : Snapshot S)
    → trajectory system seed first n ≡ Some s → trajectory system seed first (suc n) ≡ Some next → s.time ≤ next.time
next-after {S} system seed first n s next e f =
    let came = came_from system seed first n next f in
    let old : came.old ≡ s = cc in
    let time : came.fires.time ≡ next.time = ap (λ t. t.time) came.is in
    subst (λ (t : ℕ). s.time ≤ t) time (subst (λ (o : Snapshot S). o.time ≤ came.fires.time) old
    (first-after came.old came.fires (entries-after system seed first n came.old came.before) came.least))

-- the same of the trajectory of a deck
pub next-event : (deck : Deck) (event : ℕ) (s next : Snapshot DeckState) → trajectory_of deck event ≡ Some s
    → trajectory_of deck (event + 1) ≡ Some next → s.time ≤ next.time
next-event deck event s next e f =
    let one : event + 1 ≡ suc event = omega arith in
    next-after (system_of deck) deck.plan.seed (opening deck) event s next e
    (subst (λ (n : ℕ). trajectory_of deck n ≡ Some next) one f)
