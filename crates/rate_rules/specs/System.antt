-- The system of events of a chemistry: its instances on the whole lattice with their rates, and what the lattice is after
-- one has fired.
use Rattle.std.specs.Prelude.{ℕ, ◌+◌, ◌/◌, ◌^◌, ◌==◌, ℤ, unsigned_abs, List, [], ◌∷◌, ◌++◌, map, find, slice_get, Option, None, Some}
use Rattle.firing.specs.Sides.{states_for, with_states}
use Rattle.lattice_core.specs.Config.{state_at}
use Rattle.lattice_core.specs.declared.state.State.{State}
use Rattle.pattern_list.specs.Code.{code_of}
use Rattle.pattern_list.specs.Listing.{listing}
use Rattle.rate_rules.specs.Barrier.{barrier_of}
use Rattle.rate_rules.specs.Rate.{lg_rate}
use Rattle.rate_rules.specs.Reaction.{bare_reaction_energy, reaction_energy}
use Rattle.rate_rules.specs.declared.chemistry.Chemistry.{Chemistry}
use Rattle.rate_rules.specs.declared.chemistry.Process.{Process}
use Rattle.trajectory.specs.ByCode.{by_code}
use Rattle.trajectory.specs.Trajectory.{System}
use Rattle.trajectory.specs.declared.instance.Instance.{Instance}

-- the barrier of the instance of a process on these sites, which is never below 0
abbrev pub instance_barrier : Chemistry → (ℕ → State) → Process → List ℕ → ℕ
instance_barrier chemistry states process sites =
    unsigned_abs (barrier_of process (reaction_energy chemistry states process sites) (bare_reaction_energy chemistry process sites))

-- the base-2 logarithm of its rate in 1/s, in units of 2^-30; None if it has no rate
abbrev pub rate_of : Chemistry → (ℕ → State) → Process → List ℕ → Option ℤ
rate_of chemistry states process sites =
    lg_rate process.factor (instance_barrier chemistry states process sites) chemistry.temperature

-- the instance of the process of a number on these sites
abbrev pub instance_on : Chemistry → (ℕ → State) → ℕ → Process → List ℕ → Instance
instance_on chemistry states number process sites = record {
  code = code_of chemistry.graph number process.before sites;
  lg = rate_of chemistry states process sites;
}

-- the instances of the process of a number: one for each placement that the side before it matches
abbrev pub instances_of : Chemistry → (ℕ → State) → ℕ → Process → List Instance
instances_of chemistry states number process =
    map (instance_on chemistry states number process) (listing chemistry.graph states process.before)

-- the instances of some processes, of which the first has this number
abbrev pub instances_from : Chemistry → (ℕ → State) → ℕ → List Process → List Instance
instances_from chemistry states number [] = []
instances_from chemistry states number (process ∷ processes) =
    instances_of chemistry states number process ++ instances_from chemistry states (number + 1) processes

-- what a state of the lattice offers: the instances of all processes, in rising order of their codes
abbrev pub offers : Chemistry → List State → List Instance
offers chemistry states = by_code (instances_from chemistry (state_at states) 0 chemistry.processes)

-- the number of the process of a code
abbrev pub process_of : ℕ → ℕ
process_of code = code / 2 ^ 55

-- the sites of the instance of a code: of the placements that the side before its process matches, the one with the code
abbrev pub sites_of : Chemistry → List State → Process → ℕ → Option (List ℕ)
sites_of chemistry states process code =
    find (λ sites. code_of chemistry.graph (process_of code) process.before sites == code)
    (listing chemistry.graph (state_at states) process.before)

-- the states of the lattice after an instance of a process has fired on its sites
abbrev pub fired_on : List State → Process → Option (List ℕ) → List State
fired_on states process None = states
fired_on states process (Some sites) = with_states (states_for process.after sites) states

-- the states of the lattice after the instance of a code of a process, if there is one, has fired
abbrev pub fired_by : Chemistry → List State → ℕ → Option Process → List State
fired_by chemistry states code None = states
fired_by chemistry states code (Some process) = fired_on states process (sites_of chemistry states process code)

-- the states of the lattice after the instance of a code, if there is one, has fired
abbrev pub fires : Chemistry → List State → ℕ → List State
fires chemistry states code = fired_by chemistry states code (slice_get chemistry.processes (process_of code))

-- the events of a chemistry
abbrev pub system_of : Chemistry → System (List State)
system_of chemistry = record { offers = offers chemistry; fires = fires chemistry }
