-- The entries after an event: their codes, their times, and the firing that comes first among them.
use Rattle.std.proofs.Common.{◌≡◌, ℕ, ◌≤◌, true, false, not, cond, eqb, List, [], ◌∷◌, Option, None, Some, map, refl, ◌&&◌}
use Rattle.std.proofs.lemmas.Bool.{eqb-true}
use Rattle.std.proofs.lemmas.Option.{IfSome_then}
use Rattle.std.specs.List.{AllByRecursion}
use Rattle.std.specs.Prelude.{IfSome}
use Rattle.fixed_math.specs.WaitingTime.{IsLater, time_of}
use Rattle.fixed_math.proofs.TimeLemmas.{time_of-later}
use Rattle.kmc_base.specs.Entries.{codes_of, chosen, comes_before, entry_at, first_of_two, firing_at, firing_of, is_fired, kept_or, least, same_rate}
use Rattle.kmc_base.specs.declared.entry.Entry.{Entry}
use Rattle.kmc_base.specs.declared.entry.Firing.{Firing}
use Rattle.kmc_base.specs.declared.limits.TheConstants.{END_OF_TIME}
use Rattle.kmc_base.specs.declared.firing_time.When.{When}
use Rattle.kmc_base.specs.declared.firing_time.When.TheVariants.{At, Never}
use Rattle.trajectory.specs.Trajectory.{fresh, renewed}
use Rattle.trajectory.specs.declared.instance.Instance.{Instance}
use Rattle.named_draws.specs.Draw.{draw}

-- a time that is not past the end of time, if there is one
abbrev pub IsInTime : When → Type 0
IsInTime (At t) = t ≤ END_OF_TIME
IsInTime Never = Unit {0}

in_time : (now : ℕ) (w : When) → IsLater now w → IsInTime w
in_time now (At t) later = later.1
in_time now Never later = tt

pub ap2 : {X Y Z : Type 0} (f : X → Y → Z) {a b : X} {c d : Y} → a ≡ b → c ≡ d → f a c ≡ f b d
ap2 f p q i = f (p i) (q i)

-- an entry that is found is one of those in the list, and has the code
pub found-one : (P : Entry → Type 0) (code : ℕ) (es : List Entry) → AllByRecursion P es → IfSome (entry_at code es) (λ e. P e × (e.code ≡ code))
found-one P code [] all = tt
found-one P code (e ∷ es) all =
    elim (eqb e.code code) as (λ b. eqb e.code code ≡ b → IfSome (cond b (Some e) (entry_at code es)) (λ x. P x × (x.code ≡ code))) [
      | true ↦ λ same. (all.0, eqb-true e.code code same)
      | false ↦ λ other. found-one P code es all.1
    ] refl

-- what holds of both holds of the one that comes first
first-either : (Q : Firing → Type 0) (a b : Option Firing) → IfSome a Q → IfSome b Q → IfSome (first_of_two a b) Q
first-either Q None b p q = q
first-either Q (Some a) None p q = p
first-either Q (Some a) (Some b) p q =
    elim (comes_before b a) as (λ t. IfSome (cond t (Some b) (Some a)) Q) [ true ↦ q | false ↦ p ]

-- the firing of an entry of the list
abbrev pub IsFiringOf : (Entry → Type 0) → Firing → Type 0
IsFiringOf P first = (e : Entry) × P e × (e.when ≡ At first.time) × (e.code ≡ first.code)

firing-one : (P : Entry → Type 0) (e : Entry) → P e → IfSome (firing_of e) (IsFiringOf P)
firing-one P e p =
    elim e.when as (λ w. e.when ≡ w → IfSome (firing_at w e.code) (IsFiringOf P)) [
      | At t ↦ λ at. (e, p, at, refl)
      | Never ↦ λ never. tt
    ] refl

-- the first firing is that of an entry in the list
pub least-one : (P : Entry → Type 0) (es : List Entry) → AllByRecursion P es → IfSome (least es) (IsFiringOf P)
least-one P [] all = tt
least-one P (e ∷ es) all = first-either (IsFiringOf P) (firing_of e) (least es) (firing-one P e all.0) (least-one P es all.1)

-- what holds of the old entry, if there is one, and of the fresh one, holds of the chosen one
pub chosen-either : (Q : Entry → Type 0) (fired : Option ℕ) (old : Option Entry) (new : Entry) → IfSome old Q → Q new → Q (kept_or fired old new)
chosen-either Q fired None new p q = q
chosen-either Q fired (Some e) new p q =
    elim (same_rate e.lg new.lg && not (is_fired fired new.code)) as (λ t. Q (cond t e new)) [ true ↦ p | false ↦ q ]

-- an entry keeps its code
chosen-code : (old : List Entry) (fired : Option ℕ) (new : Entry) → (chosen old fired new).code ≡ new.code
chosen-code old fired new =
    chosen-either (λ e. e.code ≡ new.code) fired (entry_at new.code old) new
    (IfSome_then (entry_at new.code old) (found-one (λ e. Unit {0}) new.code old (all-unit old)) (λ e q. q.1)) refl
  where
    all-unit : (es : List Entry) → AllByRecursion (λ e. Unit {0}) es
    all-unit [] = tt
    all-unit (e ∷ es) = (tt, all-unit es)

-- the renewed entries have the codes of the instances
pub codes-renewed : (seed event time : ℕ) (fired : Option ℕ) (old : List Entry) (offers : List Instance) →
    codes_of (renewed seed event time fired old offers) ≡ map (λ (o : Instance). o.code) offers
codes-renewed seed event time fired old [] = refl
codes-renewed seed event time fired old (o ∷ offers) =
    ap2 (λ (c : ℕ) (cs : List ℕ). c ∷ cs) (chosen-code old fired (fresh seed event time o)) (codes-renewed seed event time fired old offers)

-- the renewed entries are in time, if the old ones are
pub renewed-in_time : (seed event time : ℕ) (fired : Option ℕ) (old : List Entry) (offers : List Instance)
    → AllByRecursion (λ e. IsInTime e.when) old → AllByRecursion (λ e. IsInTime e.when) (renewed seed event time fired old offers)
renewed-in_time seed event time fired old [] all = tt
renewed-in_time seed event time fired old (o ∷ offers) all = (
  chosen-either (λ e. IsInTime e.when) fired (entry_at o.code old) (fresh seed event time o)
      (IfSome_then (entry_at o.code old) (found-one (λ e. IsInTime e.when) o.code old all) (λ e q. q.0))
      (in_time time (time_of o.lg (draw seed event o.code) time) (time_of-later o.lg (draw seed event o.code) time)),
  renewed-in_time seed event time fired old offers all,
)
