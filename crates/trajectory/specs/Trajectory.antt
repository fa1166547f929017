-- The rescanning trajectory: fire the entry that comes first, list the whole new state, keep or draw each
-- time, and go on (the first reaction method of kinetic Monte Carlo, with drawn times kept as long as they hold;
-- Stamatakis and Vlachos 2011). It is stated over any system of events, and knows nothing of chemistry.
use Rattle.std.specs.Prelude.{ℕ, zero, suc, List, [], map, Option, None, Some, option_and_then}
use Rattle.std.specs.Option.{option_map}
use Rattle.fixed_math.specs.WaitingTime.{time_of}
use Rattle.kmc_base.specs.Entries.{chosen, least}
use Rattle.kmc_base.specs.declared.entry.Entry.{Entry}
use Rattle.kmc_base.specs.declared.entry.Firing.{Firing}
use Rattle.trajectory.specs.declared.instance.Instance.{Instance}
use Rattle.named_draws.specs.Draw.{draw}

-- A system of events: the instances that a state offers, in rising order of their codes; and the state after the
-- instance of a code has fired.
pub record System (S : Type 0) : Type 0 where
  pub offers : S → List Instance
  pub fires : S → ℕ → S

-- what a trajectory is at an event: the state, the time in attoseconds, and an entry for each instance
pub record Snapshot (S : Type 0) : Type 0 where
  pub state : S
  pub time : ℕ
  pub entries : List Entry

-- an instance whose waiting time is drawn at an event, by the draw that the event and its code name
abbrev pub fresh : ℕ → ℕ → ℕ → Instance → Entry
fresh seed event time instance = record {
  code = instance.code;
  lg = instance.lg;
  born = event;
  born_time = time;
  when = time_of instance.lg (draw seed event instance.code) time;
}

-- The entries after an event, by its time, the code that fired, if one did, and the old entries, for the instances that
-- the whole new state offers: one that was there with the same rate, and was not the one fired, keeps its entry; every
-- other one is fresh.
abbrev pub renewed : ℕ → ℕ → ℕ → Option ℕ → List Entry → List Instance → List Entry
renewed seed event time fired old instances = map (λ i. chosen old fired (fresh seed event time i)) instances

-- the start of a trajectory, at event 0 and time 0: nothing has fired, there are no old entries, and every instance is drawn
abbrev pub start : {S : Type 0} → System S → ℕ → S → Snapshot S
start system seed state = record { state = state; time = 0; entries = renewed seed 0 0 None [] (system.offers state) }

-- the snapshot after an event, by the one before it and what fires
abbrev pub fired : {S : Type 0} → System S → ℕ → ℕ → Snapshot S → Firing → Snapshot S
fired system seed event old first = record {
  state = system.fires old.state first.code;
  time = first.time;
  entries = renewed seed event first.time (Some first.code) old.entries (system.offers (system.fires old.state first.code));
}

-- The next snapshot after any one: the firing that comes first has fired, as the event of this number. There is none if
-- no entry has a time.
abbrev pub next : {S : Type 0} → System S → ℕ → ℕ → Snapshot S → Option (Snapshot S)
next system seed event old = option_map (fired system seed event old) (least old.entries)

-- the trajectory at each event that it comes to: from the start, the next snapshot again and again
abbrev pub trajectory : {S : Type 0} → System S → ℕ → S → ℕ → Option (Snapshot S)
trajectory system seed state zero = Some (start system seed state)
trajectory system seed state (suc n) = option_and_then (next system seed (suc n)) (trajectory system seed state n)
