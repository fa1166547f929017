-- The rows of `neighboring_structure` (Zacros manual): `i-j D` joins site i of each cell to site j of the cell that the
-- displacement D leads to.
use Rattle.std.specs.Prelude.{ℕ, ◌-◌, ◌==◌, ◌&&◌, ◌||◌, Bool, true, false, List, [], ◌∷◌, length, map, Option, None, Some, Result, Ok, codes}
use Rattle.std.specs.Prelude.{if◌then◌else◌, is_none, nat_lt, option_and_then}
use Rattle.std.specs.List.{list_any}
use Rattle.std.specs.Option.{option_map}
use Rattle.dec_text.specs.Lines.{WordLine}
use Rattle.deck_shape.specs.Blocks.{ItemLines}
use Rattle.deck_values.specs.Edges.{edge_of}
use Rattle.deck_values.specs.Lists.{fault_if}
use Rattle.deck_values.specs.Readings.{least, least_fault, values_of}
use Rattle.deck_values.specs.Rows.{or_form_fault, row_words}
use Rattle.deck_words.specs.Faults.{earliest, when_read, with_fault}
use Rattle.deck_words.specs.Tables.{same_word}
use Rattle.deck_words.specs.declared.fault.LineFault.{LineFault}
use Rattle.deck_words.specs.declared.kind.TheConstants.{BAD_EDGE, SELF_NEIGHBOUR, TOO_MANY_NEIGHBOURS}
use Rattle.lattice_cell.specs.Cells.{displaced}
use Rattle.lattice_cell.specs.Periodic.{neighbour_lists}
use Rattle.lattice_cell.specs.declared.cell.Join.{Join}
use Rattle.lattice_cell.specs.declared.cell.Toward.{Toward}
use Rattle.lattice_cell.specs.declared.cell.Toward.TheVariants.{Own, North, Northeast, East, Southeast}
use Rattle.lattice_core.specs.declared.graph.TheConstants.{MAX_NEIGHBOURS}
use Rattle.lattice_deck.specs.declared.joins.JoinRow.{JoinRow}
use Rattle.lattice_deck.specs.declared.sizes.Sizes.{Sizes}
use Rattle.site_rows.specs.SiteNumbers.{is_no_site}

-- the displacement of the second site's cell
abbrev pub toward_of : List ℕ → Option Toward
toward_of word =
    if same_word (codes "self") word
    then Some Own
    else
    (if same_word (codes "north") word
    then Some North
    else
    (if same_word (codes "northeast") word
    then Some Northeast
    else
    (if same_word (codes "east") word then Some East else (if same_word (codes "southeast") word then Some Southeast else None))))

-- the row that the two words of a line write
abbrev pub join_of : ℕ → List (List ℕ) → Option JoinRow
join_of line [] = None
join_of line (edge ∷ []) = None
join_of line (edge ∷ toward ∷ []) =
    option_and_then (λ ends. option_map (λ d. record {
      line = line;
      from = ends.0;
      to = ends.1;
      toward = d;
    }) (toward_of toward)) (edge_of edge)
join_of line (edge ∷ toward ∷ next ∷ words) = None

-- an end of a row is no site of the cell, where its number of sites is known
abbrev pub has_bad_end : Option ℕ → JoinRow → Bool
has_bad_end sites row = is_no_site sites row.from || is_no_site sites row.to

-- a row, unless an end of it is no site
abbrev pub with_ends : Option ℕ → JoinRow → Result JoinRow LineFault
with_ends sites row = with_fault (fault_if (has_bad_end sites row) row.line BAD_EDGE) (Ok row)

-- the row of a line, or the fault of its form or of an end
abbrev pub join_row : Option ℕ → WordLine → Result JoinRow LineFault
join_row sites line = when_read (with_ends sites) (or_form_fault line.number (join_of line.number (row_words line)))

-- a displacement leads back to the same cell: `self` does so always, the others by the repeats, where these are known
abbrev pub leads_back : Option (ℕ × ℕ) → Toward → Bool
leads_back repeats Own = true
leads_back None North = false
leads_back None Northeast = false
leads_back None East = false
leads_back None Southeast = false
leads_back (Some r) North = displaced r.0 r.1 North 0 == 0
leads_back (Some r) Northeast = displaced r.0 r.1 Northeast 0 == 0
leads_back (Some r) East = displaced r.0 r.1 East 0 == 0
leads_back (Some r) Southeast = displaced r.0 r.1 Southeast 0 == 0

-- a row joins a site to itself
abbrev pub joins_itself : Option (ℕ × ℕ) → JoinRow → Bool
joins_itself repeats row = row.from == row.to && leads_back repeats row.toward

-- the fault of such a row
abbrev pub itself_fault : Option (ℕ × ℕ) → JoinRow → Option LineFault
itself_fault repeats row = fault_if (joins_itself repeats row) row.line SELF_NEIGHBOUR

-- the join of a row, with sites from 0
abbrev pub join_from : JoinRow → Join
join_from row = record { from = row.from - 1; to = row.to - 1; toward = row.toward }

-- some site has more than 32 neighbours, itself among them where it is joined to itself
abbrev pub is_crowded : ℕ → ℕ × ℕ → List Join → Bool
is_crowded sites repeats joins = list_any (λ list. nat_lt MAX_NEIGHBOURS (length list)) (neighbour_lists repeats.0 repeats.1 sites joins)

-- the same where the number of sites and the repeats are known
abbrev pub crowds : Option ℕ → Option (ℕ × ℕ) → List JoinRow → Bool
crowds None repeats rows = false
crowds (Some sites) None rows = false
crowds (Some sites) (Some repeats) rows = is_crowded sites repeats (map join_from rows)

-- a site with too many neighbours is a fault of the word, where every row has the right form and ends in the cell
abbrev pub crowd_fault : Sizes → ℕ → Option LineFault → List JoinRow → Option LineFault
crowd_fault sizes line of_rows rows = fault_if (is_none of_rows && crowds sizes.sites sizes.repeats rows) line TOO_MANY_NEIGHBOURS

-- these rows, unless they have a fault: of their forms and ends, of a site with too many neighbours, or of one that is
-- joined to itself
abbrev pub sound_joins : Sizes → ℕ → Option LineFault → List JoinRow → Result (List JoinRow) LineFault
sound_joins sizes line of_rows rows =
    with_fault (earliest (crowd_fault sizes line of_rows rows) (earliest of_rows (least (map (itself_fault sizes.repeats) rows)))) (Ok rows)

-- the rows that join sites, below a word, or the earliest of their faults
abbrev pub joins_on : Sizes → ItemLines → Result (List JoinRow) LineFault
joins_on sizes item =
    sound_joins sizes item.line.number (least_fault (map (join_row sizes.sites) item.rows)) (values_of (map (join_row sizes.sites) item.rows))
