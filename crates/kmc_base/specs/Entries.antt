-- The list of possible events: an entry for each instance of a process, in rising order of their codes.
use Rattle.std.specs.Prelude.{ℕ, ◌<◌, ◌==◌, ◌&&◌, Bool, true, false, not, ℤ, List, [], ◌∷◌, Option, None, Some, if◌then◌else◌, nat_lt, map, ⊤}
use Rattle.std.specs.List.{AllByRecursion}
use Rattle.std.specs.Ordering.{int_eq}
use Rattle.kmc_base.specs.declared.entry.Entry.{Entry}
use Rattle.kmc_base.specs.declared.entry.Firing.{Firing}
use Rattle.kmc_base.specs.declared.firing_time.When.{When}
use Rattle.kmc_base.specs.declared.firing_time.When.TheVariants.{At, Never}

-- each number is below those after it
abbrev pub IsRising : List ℕ → Type 0
IsRising [] = ⊤
IsRising (n ∷ ns) = AllByRecursion (λ m. n < m) ns × IsRising ns

-- the codes of the entries
abbrev pub codes_of : List Entry → List ℕ
codes_of entries = map (λ e. e.code) entries

-- the entry with a code, looked for through the whole list
abbrev pub entry_at : ℕ → List Entry → Option Entry
entry_at code [] = None
entry_at code (e ∷ es) = if e.code == code then Some e else entry_at code es

-- two rates are the same; having none is the same as having none
abbrev pub same_rate : Option ℤ → Option ℤ → Bool
same_rate None None = true
same_rate (Some x) (Some y) = int_eq x y
same_rate None (Some y) = false
same_rate (Some x) None = false

-- a code is that of the instance that was fired, if one was
abbrev pub is_fired : Option ℕ → ℕ → Bool
is_fired None code = false
is_fired (Some fired) code = fired == code

-- the old entry, if there was one, or the fresh one
abbrev pub kept_or : Option ℕ → Option Entry → Entry → Entry
kept_or fired None fresh = fresh
kept_or fired (Some old) fresh = if same_rate old.lg fresh.lg && not (is_fired fired fresh.code) then old else fresh

-- Which waiting times are kept after an event: an instance that was there with the same rate, and was not the one
-- fired, keeps its entry and with it its time; every other instance gets the fresh one.
abbrev pub chosen : List Entry → Option ℕ → Entry → Entry
chosen old fired fresh = kept_or fired (entry_at fresh.code old) fresh

-- one firing comes before another: the earlier time, and at one time the lesser code
abbrev pub comes_before : Firing → Firing → Bool
comes_before a b = if a.time == b.time then nat_lt a.code b.code else nat_lt a.time b.time

-- the firing of a code at a time, if it ever fires
abbrev pub firing_at : When → ℕ → Option Firing
firing_at (At t) code = Some (record { time = t; code = code })
firing_at Never code = None

-- the firing of an entry that has a time
abbrev pub firing_of : Entry → Option Firing
firing_of e = firing_at e.when e.code

-- the one of two that comes first, if there is one
abbrev pub first_of_two : Option Firing → Option Firing → Option Firing
first_of_two None b = b
first_of_two (Some a) None = Some a
first_of_two (Some a) (Some b) = if comes_before b a then Some b else Some a

-- The firing that comes first among the entries that have a time, found by looking through the whole list.
abbrev pub least : List Entry → Option Firing
least [] = None
least (e ∷ es) = first_of_two (firing_of e) (least es)
