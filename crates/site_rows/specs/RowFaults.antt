-- The faults of the rows of sites: those of each row by itself, by the rows above it and by all rows. Where several hold
-- the earliest counts, and of one row the one of the least kind.
use Rattle.std.specs.Prelude.{ℕ, ◌&&◌, ◌||◌, Bool, false, not, List, [], ◌∷◌, ◌++◌, length, map, Option, Result, Ok, is_some, nat_lt, if◌then◌else◌}
use Rattle.std.specs.List.{list_any}
use Rattle.std.specs.Option.{option_map_or}
use Rattle.dec_text.specs.Lines.{WordLine}
use Rattle.deck_values.specs.Lists.{fault_if}
use Rattle.deck_values.specs.Readings.{least, least_fault}
use Rattle.deck_words.specs.Faults.{earliest, with_fault}
use Rattle.deck_words.specs.declared.fault.LineFault.{LineFault}
use Rattle.deck_words.specs.declared.kind.TheConstants.{BAD_SITE, ONE_SIDED, OUT_OF_RANGE, REPEATED_SITE, SELF_NEIGHBOUR}
use Rattle.deck_words.specs.declared.kind.TheConstants.{TOO_MANY_NEIGHBOURS}
use Rattle.lattice_core.specs.SiteList.{is_listed}
use Rattle.lattice_core.specs.declared.graph.TheConstants.{MAX_NEIGHBOURS}
use Rattle.site_rows.specs.SiteNumbers.{is_no_site}
use Rattle.site_rows.specs.SiteRows.{SiteRow, row_for, rows_of, site_row}

-- a row names what is no site
abbrev pub has_bad_site : Option ℕ → SiteRow → Bool
has_bad_site sites row = is_no_site sites row.site || list_any (is_no_site sites) row.neighbours

-- the neighbours, each once
abbrev pub each_once : List ℕ → List ℕ
each_once [] = []
each_once (n ∷ ns) = if is_listed ns n then each_once ns else n ∷ each_once ns

-- a neighbour is one-sided: it has a row, which names only sites, and not this site
abbrev pub is_one_sided : Option ℕ → List SiteRow → ℕ → ℕ → Bool
is_one_sided sites all site neighbour =
    option_map_or (λ row. not (has_bad_site sites row) && not (is_listed row.neighbours site)) (row_for neighbour all) false

-- the fault of a row, by the rows above it and by all rows
abbrev pub row_fault : Option ℕ → List SiteRow → List SiteRow → SiteRow → Option LineFault
row_fault sites above all row =
    least
    (fault_if row.is_out_of_range row.line OUT_OF_RANGE
    ∷ fault_if (is_some (row_for row.site above)) row.line REPEATED_SITE
    ∷ fault_if (has_bad_site sites row) row.line BAD_SITE
    ∷ fault_if (is_listed row.neighbours row.site) row.line SELF_NEIGHBOUR
    ∷ fault_if (nat_lt MAX_NEIGHBOURS (length (each_once row.neighbours))) row.line TOO_MANY_NEIGHBOURS
    ∷ fault_if (list_any (is_one_sided sites all row.site) row.neighbours) row.line ONE_SIDED
    ∷ [])

-- the earliest fault of some rows below others
abbrev pub fault_below : Option ℕ → List SiteRow → List SiteRow → List SiteRow → Option LineFault
fault_below sites all above [] = least []
fault_below sites all above (row ∷ rows) = earliest (row_fault sites above all row) (fault_below sites all (above ++ row ∷ []) rows)

-- the earliest fault of all rows of the right form
abbrev pub rows_fault : Option ℕ → List SiteRow → Option LineFault
rows_fault sites rows = fault_below sites rows [] rows

-- the rows of a file, which are these lines, or the earliest of their faults
abbrev pub site_rows : Option ℕ → List WordLine → Result (List SiteRow) LineFault
site_rows sites lines =
    with_fault (earliest (least_fault (map site_row lines)) (rows_fault sites (rows_of lines))) (Ok (rows_of lines))
