use Rattle.std.proofs.Common.{◌≡◌, ◌++◌, drop}
use Rattle.std.specs.List.{enumerate_from, flat_map}
use Rattle.zacros_output.specs.History.{occupied_line, occupied_lines}
use Rattle.zacros_output.proofs.history.push_sites.Given as goal

-- the lines so far, and those of the sites that are left, are all of them
abbrev pub invariant-loop-site : goal.invariant-loop-site
invariant-loop-site g l =
    l.out.items ++ flat_map (λ site. occupied_line l.deck.book.surface site.0 site.1) (enumerate_from l.site (drop l.site l.config))
    ≡ l.fn.out.items ++ occupied_lines l.deck.book.surface l.config
