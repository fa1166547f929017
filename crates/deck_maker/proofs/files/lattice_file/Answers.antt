use Rattle.std.proofs.Common.{◌∙◌, ap}
use Rattle.std.proofs.lemmas.List.{append_assoc}
use Rattle.deck_maker.specs.MadeDeck.{made_lattice}
use Rattle.deck_maker.proofs.files.lattice_file.Goals as goal

-- the pieces of the format are those of the definition
pub returns : goal.returns
unfolding made_lattice
returns c = simp append_assoc (rw (← c.side_of-side.ensures) (ap (λ v. v.items) c.into_bytes.ensures.value ∙ c.in_ok-text.ensures.ok))
