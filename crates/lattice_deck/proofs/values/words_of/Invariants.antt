use Rattle.std.proofs.Common.{◌≡◌, ◌++◌, ℕ, List, drop, map}
use Rattle.deck_shape.specs.Names.{name_at, on_line}
use Rattle.site_rows.specs.ReadRows.{row_at}
use Rattle.lattice_deck.proofs.values.words_of.Given as goal

-- the names so far, and those that are left, are all of them
abbrev pub invariant-loop-row : goal.invariant-loop-row
invariant-loop-row l =
    (text : List ℕ) → map (name_at text) l.names.items ++ map (λ row. on_line row.line row.type_word) (map (row_at text) (drop l.row-index l.rows))
    ≡ map (λ row. on_line row.line row.type_word) (map (row_at text) l.rows)
