use Rattle.std.proofs.Common.{◌≡◌, drop}
use Rattle.std.specs.List.{position_from}
use Rattle.std.specs.Str.{bytes_eq}
use Rattle.species_book.specs.Book.{names_of, place_of}
use Rattle.species_book.proofs.book.place_of.Given as goal

abbrev pub invariant-loop-place : goal.invariant-loop-place
invariant-loop-place l = position_from (λ n. bytes_eq n l.name) l.place (names_of (drop l.place l.names)) ≡ place_of (names_of l.names) l.name
