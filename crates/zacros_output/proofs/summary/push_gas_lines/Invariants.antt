use Rattle.std.proofs.Common.{◌≡◌, ◌++◌, drop}
use Rattle.species_book.specs.Book.{names_of}
use Rattle.zacros_output.specs.Summary.{gas_species_lines}
use Rattle.zacros_output.proofs.summary.push_gas_lines.Given as goal

-- the lines so far, and those of the species that are left, are all of them
abbrev pub invariant-loop-place : goal.invariant-loop-place
invariant-loop-place l =
    l.out.items ++ gas_species_lines (names_of (drop l.place l.names)) (drop l.place l.numbers)
    ≡ l.fn.out.items ++ gas_species_lines (names_of l.names) l.numbers
