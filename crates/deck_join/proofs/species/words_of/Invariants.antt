use Rattle.std.proofs.Common.{◌≡◌, ◌++◌, drop, map}
use Rattle.deck_join.specs.Species.{words_of}
use Rattle.deck_shape.specs.Names.{name_at}
use Rattle.species_book.specs.Book.{names_of}
use Rattle.deck_join.proofs.species.words_of.Given as goal

-- the names so far, and those that are left, are all of them
abbrev pub invariant-loop-name : goal.invariant-loop-name
invariant-loop-name l =
    names_of l.words.items ++ words_of (map (name_at l.text) (drop l.name-index l.names))
    ≡ words_of (map (name_at l.text) l.names)
