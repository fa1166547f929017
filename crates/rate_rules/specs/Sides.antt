-- The two sides of an instance of a process, as the states of the whole lattice. Initial and final are meant in the forward
-- direction of the step, also for its reverse process.
use Rattle.std.specs.Prelude.{ℕ, List, if◌then◌else◌, unwrap_or}
use Rattle.firing.specs.Sides.{states_for}
use Rattle.lattice_core.specs.Shown.{given_at, state_or_vacant}
use Rattle.lattice_core.specs.declared.state.State.{State}
use Rattle.pattern_types.specs.Parts.{PatternParts}
use Rattle.rate_rules.specs.declared.chemistry.Process.{Process}

-- the other side of an instance on these sites: what is there once it has fired, and the present states elsewhere
abbrev pub other_side : Process → List ℕ → (ℕ → State) → ℕ → State
other_side process sites states s = unwrap_or (given_at (states_for process.after sites) s) (states s)

-- the initial side: the present states of a forward process, and the other side of a reverse one
abbrev pub initial_side : Process → List ℕ → (ℕ → State) → ℕ → State
initial_side process sites states = if process.forward then states else other_side process sites states

-- the final side
abbrev pub final_side : Process → List ℕ → (ℕ → State) → ℕ → State
final_side process sites states = if process.forward then other_side process sites states else states

-- the initial entities of the forward step
abbrev pub initial_entities : Process → PatternParts
initial_entities process = if process.forward then process.before else process.after

-- its final entities
abbrev pub final_entities : Process → PatternParts
final_entities process = if process.forward then process.after else process.before

-- the whole lattice with these entities on these sites, and nothing elsewhere
abbrev pub bare_side : PatternParts → List ℕ → ℕ → State
bare_side side sites = state_or_vacant (states_for side sites)
