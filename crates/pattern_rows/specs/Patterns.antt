-- The pattern that a cluster, or a side of a step, is, once its species and site types are known by their numbers.
use Rattle.std.specs.Prelude.{ℕ, ◌≡◌, List, length, map, Option, None, Some, codes, if◌then◌else◌}
use Rattle.kmc_base.specs.declared.ids.SpeciesId.{SpeciesId}
use Rattle.deck_words.specs.Tables.{same_word}
use Rattle.pattern_rows.specs.States.{EntityWords, StateWords}
use Rattle.pattern_types.specs.Parts.{parts}
use Rattle.pattern_types.specs.Soundness.{IsSound}
use Rattle.pattern_types.specs.declared.wanted.Wanted.{Wanted}
use Rattle.pattern_types.specs.declared.wanted.Wanted.TheVariants.{Any, Vacant, Holds}

-- what an entity is wanted as, where each name of a species has a number; `*` is a vacant site
abbrev pub wanted_entity : (List ℕ → SpeciesId) → EntityWords → Wanted
wanted_entity species entity =
    if same_word (codes "*") entity.species.word.bytes
    then Vacant
    else Holds entity.entity (species entity.species.word.bytes) entity.dentate

-- what a row of states wants of its site
abbrev pub wanted_of : (List ℕ → SpeciesId) → StateWords → Wanted
wanted_of species None = Any
wanted_of species (Some entity) = wanted_entity species entity

-- The edges and rows of so many sites make a pattern, whatever numbers the species have, and whatever site types are
-- asked for.
abbrev pub MakePattern : ℕ → List (ℕ × ℕ) → List StateWords → Type 0
MakePattern sites edges rows =
    (species : List ℕ → SpeciesId) (types : List (Option ℕ)) → length types ≡ sites
    → IsSound (parts edges types (map (wanted_of species) rows))
