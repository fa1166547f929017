use Rattle.std.proofs.Common.{◌≡◌, ◌∙◌, Ok, ap, map, refl, subst, sym}
use Rattle.deck.specs.Soundness.{IsSound}
use Rattle.deck.specs.declared.deck.Deck.{Deck}
use Rattle.deck_join.proofs.SoundDecks.{sound_deck}
use Rattle.deck_join.specs.Decks.{deck_with, joined}
use Rattle.deck_join.specs.ProcessNames.{names_of}
use Rattle.deck_join.specs.Processes.{processes_of}
use Rattle.deck_join.specs.SoundValues.{AreSoundNames}
use Rattle.deck_join.specs.Views.{bytes_of, gases_at, named_steps_at, names_at, values_at}
use Rattle.species_book.specs.Book.{Book}
use Rattle.deck_join.proofs.join.joined.Goals.{After-deck_with}
use Rattle.deck_join.proofs.join.joined.Goals as goal

-- the deck that is made is that of the definition
made : (c : After-deck_with)
    → c.deck_with.result ≡ deck_with (values_at (bytes_of c.args.files.now) c.args.parts) (names_at c.args.files.now.mechanism.now c.in_ok-clusters.field-0)
made c =
    let bytes = c.args.files.now.mechanism.now in
    let names = names_at bytes c.in_ok-clusters.field-0 in
    let steps : named_steps_at bytes c.deref.result.now ≡ names.steps =
    ap (named_steps_at bytes) c.deref.ensures.value in
    let other : named_steps_at bytes c.deref-2.result.now ≡ names.steps =
    ap (named_steps_at bytes) c.deref-2.ensures.value in
    c.deck_with.ensures (bytes_of c.args.files.now) names c.in_ok-book.ensures refl
    (c.in_ok-processes.ensures
    ∙ ap (λ type_names. processes_of (gases_at c.args.parts.simulation) (map (λ name. name.items) type_names) (named_steps_at bytes c.deref.result.now))
    c.as_slice-type_names.ensures
    ∙ ap (processes_of (gases_at c.args.parts.simulation) (values_at (bytes_of c.args.files.now) c.args.parts).lattice.type_names) steps)
    (c.in_ok-process_names.ensures ∙ ap names_of other)

pub returns-clause-value : goal.returns-clause-value
unfolding joined
returns-clause-value c = rw (c.in_ok-clusters.ensures.names) (ap (λ (deck : Deck). Ok deck) (sym (made c)))

pub returns-clause-sound : goal.returns-clause-sound
returns-clause-sound c =
    let values = values_at (bytes_of c.args.files.now) c.args.parts in
    let names = names_at c.args.files.now.mechanism.now c.in_ok-clusters.field-0 in
    subst IsSound (sym (made c))
    (sound_deck values names c.requires (subst (λ (b : Book). AreSoundNames b names) c.in_ok-book.ensures c.in_ok-clusters.ensures.sound))
