-- Firing an instance of a step (Stamatakis and Vlachos 2011): its initial entities are taken off its sites, and its final
-- ones are put on the same sites.
use Rattle.std.specs.Prelude.{◌≡◌, ◌≢◌, ℕ, ◌<◌, List, length}
use Rattle.std.specs.List.{All, AllPairs, fold}
use Rattle.firing.specs.Entities.{entities, entity_sites}
use Rattle.firing.specs.Sides.{AreInStates, states_for}
use Rattle.firing.specs.Soundness.{HasDentates, IsSoundSide}
use Rattle.lattice_core.specs.Config.{IsWellFormed, cleared, put, state_at}
use Rattle.lattice_core.specs.declared.state.State.{State}
use Rattle.lattice_core.specs.declared.state.State.TheVariants.{Vacant}
use Rattle.pattern_types.specs.Parts.{PatternParts, vertex_count}

-- the configuration once the entities of a side are taken off their sites, one after the other
abbrev pub cleared_side : PatternParts → List ℕ → List State → List State
cleared_side side sites states =
    fold (λ now entity. cleared now (entity_sites entity.0 side.wanted sites)) states (entities side.wanted)

-- the configuration once the entities of a side are put on their sites, one after the other
abbrev pub set_side : PatternParts → List ℕ → List State → List State
set_side side sites states =
    fold (λ now entity. put now entity.1.0 (entity_sites entity.0 side.wanted sites)) states (entities side.wanted)

-- the vertices of a side fall on these sites of a configuration, which are different
pub record IsPlaced (side : PatternParts) (sites : List ℕ) (states : List State) : Type 0 where
  pub vertices : length sites ≡ vertex_count side
  pub inside : All (λ s. s < length states) sites
  pub different : AllPairs (λ s t. s ≢ t) sites

-- the entities of a sound side can be put on these sites: all of them are vacant
pub record CanSet (side : PatternParts) (sites : List ℕ) (states : List State) : Type 0 where
  pub sound : IsSoundSide side
  pub placed : IsPlaced side sites states
  pub vacant : All (λ s. state_at states s ≡ Vacant) sites

-- the entities of a sound side can be taken off these sites: they are there, and the configuration is well formed, of
-- species that have as many dentates as the entities
pub record CanClear (side : PatternParts) (sites : List ℕ) (states : List State) : Type 0 where
  pub sound : IsSoundSide side
  pub placed : IsPlaced side sites states
  pub in_states : AreInStates states (states_for side sites)
  pub well_formed : (dentates : ℕ → ℕ) × HasDentates dentates side × IsWellFormed dentates states

-- an instance of a step of these two sides can fire on these sites: the entities of the side before it are there, and
-- the side after it is sound and has as many vertices
pub record CanFire (before after : PatternParts) (sites : List ℕ) (states : List State) : Type 0 where
  pub can_clear : CanClear before sites states
  pub sound_after : IsSoundSide after
  pub same_vertices : vertex_count after ≡ vertex_count before
