use Rattle.std.proofs.Common.{◌∙◌, ap, map}
use Rattle.deck_join.specs.Species.{words_of}
use Rattle.deck_shape.specs.Names.{name_at}
use Rattle.deck_join.proofs.SoundDecks.{distinct_at}
use Rattle.deck_join.proofs.species.book_of.Goals as goal

pub new-requires-clause-gas_differ : goal.new-requires-clause-gas_differ
new-requires-clause-gas_differ c =
    distinct_at _ _ (c.in_ok-gas.ensures
    ∙ ap (λ names. words_of (map (name_at c.args.text.now) names)) c.as_slice.ensures) c.requires.gas.differ

pub new-requires-clause-surface_differ : goal.new-requires-clause-surface_differ
new-requires-clause-surface_differ c =
    distinct_at _ _ (c.in_ok-surface.ensures
    ∙ ap (λ names. words_of (map (name_at c.args.text.now) names)) c.as_slice-2.ensures) c.requires.surface.differ
