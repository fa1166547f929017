-- The entities of a side of a step. An entity is the name within a side by which several vertices want one adsorbate.
use Rattle.std.specs.Prelude.{ℕ, ◌==◌, Bool, false, List, map, Option, None, Some, if◌then◌else◌}
use Rattle.std.specs.List.{count_by, filter_map, range_with_len}
use Rattle.firing.specs.Sides.{site_of}
use Rattle.kmc_base.specs.declared.ids.SpeciesId.{SpeciesId}
use Rattle.pattern_types.specs.declared.wanted.Wanted.{Wanted}
use Rattle.pattern_types.specs.declared.wanted.Wanted.TheVariants.{Any, Vacant, Holds}

-- a vertex names an entity
abbrev pub is_of : ℕ → Wanted → Bool
is_of entity Any = false
is_of entity Vacant = false
is_of entity (Holds e species dentate) = e == entity

-- the size of an entity: how many vertices name it
abbrev pub size_of : ℕ → List Wanted → ℕ
size_of entity wanted = count_by (is_of entity) wanted

-- the sites of an entity, in the order of its dentates, where the vertices fall on these sites
abbrev pub entity_sites : ℕ → List Wanted → List ℕ → List ℕ
entity_sites entity wanted sites = map (λ dentate. site_of entity dentate wanted sites) (range_with_len 1 (size_of entity wanted))

-- the entity, with its species, of which a vertex wants dentate 1
abbrev pub first_of : Wanted → Option (ℕ × SpeciesId)
first_of Any = None
first_of Vacant = None
first_of (Holds entity species dentate) = if dentate == 1 then Some (entity, species) else None

-- the entities, with their species, in the order of the vertices that want their dentate 1
abbrev pub entities : List Wanted → List (ℕ × SpeciesId)
entities wanted = filter_map first_of wanted
