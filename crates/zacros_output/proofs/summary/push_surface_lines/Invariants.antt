use Rattle.std.proofs.Common.{◌≡◌, ◌++◌, drop}
use Rattle.species_book.specs.Book.{names_of}
use Rattle.zacros_output.specs.Summary.{surface_lines}
use Rattle.zacros_output.proofs.summary.push_surface_lines.Given as goal

-- the lines so far, and those of the species that are left, are all of them
abbrev pub invariant-loop-place : goal.invariant-loop-place
invariant-loop-place l =
    l.out.items ++ surface_lines (names_of (drop l.place l.names)) (drop l.place l.counts)
    ≡ l.fn.out.items ++ surface_lines (names_of l.names) l.counts
