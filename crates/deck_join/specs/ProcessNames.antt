-- The names of processes: that of the step, `:` and that of its variant where it has one, and `/fwd` or `/rev` where the step is
-- reversible.
use Rattle.std.specs.Prelude.{ℕ, ◌++◌, [], ◌∷◌, List, Option, codes, if◌then◌else◌}
use Rattle.std.specs.List.{flat_map}
use Rattle.std.specs.Option.{option_map_or}
use Rattle.deck_shape.specs.Names.{NameWord}
use Rattle.deck_join.specs.Steps.{NamedStep}

-- what the name of a variant adds to that of its step
abbrev pub variant_part : Option NameWord → List ℕ
variant_part variant = option_map_or (λ name. codes ":" ++ name.word.bytes) variant []

-- the name of a step
abbrev pub name_of : NamedStep → List ℕ
name_of step = step.step.body.name.word.bytes ++ variant_part step.step.variant.name

-- the names of the processes of a step
abbrev pub names_of_step : NamedStep → List (List ℕ)
names_of_step step =
    if step.step.body.reversible
    then (name_of step ++ codes "/fwd") ∷ (name_of step ++ codes "/rev") ∷ []
    else name_of step ∷ []

-- the names of the processes of steps, in their order
abbrev pub names_of : List NamedStep → List (List ℕ)
names_of steps = flat_map names_of_step steps
