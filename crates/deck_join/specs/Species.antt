-- The species of a deck.
use Rattle.std.specs.Prelude.{ℕ, List, map}
use Rattle.deck_shape.specs.Names.{NameWord}
use Rattle.sim_deck.specs.Values.{SimValues}
use Rattle.species_book.specs.Book.{Book}

-- the bytes of names
abbrev pub words_of : List NameWord → List (List ℕ)
words_of names = map (λ name. name.word.bytes) names

-- the species of a simulation file, with the dentates of the surface species
abbrev pub book_of : SimValues → Book
book_of values = record { gas = words_of values.gas; surface = words_of values.surface; dentates = values.dentates }
