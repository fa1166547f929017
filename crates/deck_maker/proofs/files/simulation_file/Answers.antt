use Rattle.std.proofs.Common.{◌∙◌, ap}
use Rattle.std.proofs.lemmas.List.{append_assoc}
use Rattle.deck_maker.specs.MadeDeck.{made_simulation}
use Rattle.deck_maker.proofs.files.simulation_file.Goals as goal

-- the pieces of the format are those of the definition
pub returns : goal.returns
unfolding made_simulation
returns c = simp append_assoc (rw (← c.seed_of-seed.ensures, ← c.kelvin_of-kelvin.ensures, ← c.steps_of-steps.ensures) (ap (λ v. v.items) c.into_bytes.ensures.value ∙ c.in_ok-text.ensures.ok))
