-- The sides of a step (Stamatakis and Vlachos 2011): what one asks of the sites of an instance before it fires, the other
-- is what is on them afterwards.
use Rattle.std.specs.Prelude.{ℕ, ◌==◌, ◌&&◌, ◌≡◌, Bool, false, List, [], ◌∷◌, map, slice_set, if◌then◌else◌, zip}
use Rattle.std.specs.List.{All}
use Rattle.kmc_base.specs.declared.ids.SiteId.{SiteId}
use Rattle.lattice_core.specs.Config.{state_at}
use Rattle.lattice_core.specs.declared.state.State.{State}
use Rattle.lattice_core.specs.declared.state.State.TheVariants.{Vacant as Free, Holds as Occupied}
use Rattle.pattern_types.specs.Parts.{PatternParts}
use Rattle.pattern_types.specs.declared.wanted.Wanted.{Wanted}
use Rattle.pattern_types.specs.declared.wanted.Wanted.TheVariants.{Any, Vacant, Holds}

-- a vertex wants this dentate of an entity
abbrev pub is_dentate : ℕ → ℕ → Wanted → Bool
is_dentate entity dentate Any = false
is_dentate entity dentate Vacant = false
is_dentate entity dentate (Holds e species d) = e == entity && d == dentate

-- a vertex wants dentate 1 of an entity
abbrev pub is_first_dentate : ℕ → Wanted → Bool
is_first_dentate entity wanted = is_dentate entity 1 wanted

-- the site of the vertex that wants this dentate of an entity, and site 0 where none does
abbrev pub site_of : ℕ → ℕ → List Wanted → List ℕ → ℕ
site_of entity dentate [] sites = 0
site_of entity dentate (w ∷ wanted) [] = 0
site_of entity dentate (w ∷ wanted) (s ∷ sites) = if is_dentate entity dentate w then s else site_of entity dentate wanted sites

-- the home of an entity: the site of the vertex that wants its dentate 1
abbrev pub home_of : ℕ → List Wanted → List ℕ → ℕ
home_of entity wanted sites = site_of entity 1 wanted sites

-- the state that a vertex wants of its site, where the vertices fall on these sites; no side of a step wants Any
abbrev pub state_for : PatternParts → List ℕ → Wanted → State
state_for side sites Any = Free
state_for side sites Vacant = Free
state_for side sites (Holds entity species dentate) = Occupied species dentate (record { 0 = home_of entity side.wanted sites })

-- sites by their numbers
abbrev pub sites_from : List ℕ → List SiteId
sites_from sites = map (λ s. record { 0 = s }) sites

-- each site of a placement with the state that a side of the step wants of it
abbrev pub states_for : PatternParts → List ℕ → List (SiteId × State)
states_for side sites = zip (sites_from sites) (map (state_for side sites) side.wanted)

-- a configuration with these states on these sites
unfoldable pub with_states : List (SiteId × State) → List State → List State
with_states [] states = states
with_states (given ∷ rest) states = with_states rest (slice_set states given.0.0 given.1)

-- each of these sites is in the state that is given for it
abbrev pub AreInStates : List State → List (SiteId × State) → Type 0
AreInStates states given = All (λ pair. state_at states pair.0.0 ≡ pair.1) given
