use Rattle.species_book.proofs.Places.{place_found, place_none}
use Rattle.species_book.specs.Book.{names_of}
use Rattle.species_book.proofs.book.find.Goals as goal

pub returns-clause-found : goal.returns-clause-found
returns-clause-found c i = rw c.place_of.ensures (place_found (names_of c.args.names.now) c.args.name.now c.requires.differ i)

pub returns-clause-none : goal.returns-clause-none
returns-clause-none c = rw c.place_of.ensures (place_none (names_of c.args.names.now) c.args.name.now c.requires.differ)
