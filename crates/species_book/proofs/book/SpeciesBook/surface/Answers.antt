use Rattle.std.proofs.Common.{◌≡◌, ◌∙◌, ap}
use Rattle.species_book.proofs.Places.{none_at}
use Rattle.species_book.specs.Book.{Book, names_of}
use Rattle.species_book.proofs.book.SpeciesBook.surface.Goals as goal

pub returns-clause-none : goal.returns-clause-none
returns-clause-none c =
    let same : names_of c.deref.result.now ≡ c.args.self.now.surface = ap names_of c.deref.ensures.value
    ∙ ap (λ (b : Book). b.surface) c.self.view_is in
    rw c.map.ensures.variant (none_at c.find.result _ _ _ same c.find.ensures.none)
