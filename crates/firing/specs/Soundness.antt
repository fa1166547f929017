-- What is asked of the sides of a step: their entities are whole adsorbates.
use Rattle.std.specs.Prelude.{◌≡◌, ℕ, ◌≤◌, List}
use Rattle.std.specs.List.{All, Contains}
use Rattle.firing.specs.Entities.{size_of}
use Rattle.pattern_types.specs.Parts.{PatternParts}
use Rattle.pattern_types.specs.Soundness.{IsSound as IsPattern}
use Rattle.pattern_types.specs.declared.wanted.Wanted.{Wanted}
use Rattle.pattern_types.specs.declared.wanted.Wanted.TheVariants.{Any, Vacant, Holds}

-- A vertex of a side of a step wants a vacant site, or a dentate of an entity. The dentates of an entity are from 1 to its
-- size, and some vertex wants each of them, of the same species.
abbrev pub IsWholeWant : List Wanted → Wanted → Type 0
IsWholeWant wanted Any = ⊥
IsWholeWant wanted Vacant = Unit {0}
IsWholeWant wanted (Holds entity species dentate) =
    (1 ≤ dentate) × (dentate ≤ size_of entity wanted)
    × ((d : ℕ) → 1 ≤ d → d ≤ size_of entity wanted → Contains wanted (Holds entity species d))

-- one side of a step, before or after it: a pattern whose entities are whole
pub record IsSoundSide (side : PatternParts) : Type 0 where
  pub pattern : IsPattern side
  pub whole : All (IsWholeWant side.wanted) side.wanted

-- a dentate is wanted of an entity that has as many dentates as its species
abbrev pub HasItsDentates : (ℕ → ℕ) → List Wanted → Wanted → Type 0
HasItsDentates dentates wanted Any = Unit {0}
HasItsDentates dentates wanted Vacant = Unit {0}
HasItsDentates dentates wanted (Holds entity species dentate) = size_of entity wanted ≡ dentates species.0

-- each entity of a side has as many dentates as its species
abbrev pub HasDentates : (ℕ → ℕ) → PatternParts → Type 0
HasDentates dentates side = All (HasItsDentates dentates side.wanted) side.wanted
