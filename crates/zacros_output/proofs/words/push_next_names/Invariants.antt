use Rattle.std.proofs.Common.{◌≡◌, ◌++◌, drop}
use Rattle.species_book.specs.Book.{names_of}
use Rattle.zacros_output.specs.Words.{next_names}
use Rattle.zacros_output.proofs.words.push_next_names.Given as goal

-- the names so far, and those that are left, are all of them
abbrev pub invariant-loop-name : goal.invariant-loop-name
invariant-loop-name l = l.out.items ++ next_names (names_of (drop l.name-index l.names)) ≡ l.fn.out.items ++ next_names (names_of l.names)
