-- The edges of a pattern, which `neighboring` lists as words `i-j` (Zacros manual).
use Rattle.std.specs.Prelude.{ℕ, not, List, [], Option, None, Some, Result, Ok, Err, if◌then◌else◌}
use Rattle.deck_shape.specs.BlockValues.{line_value_or}
use Rattle.deck_shape.specs.Blocks.{BlockLines}
use Rattle.deck_shape.specs.WordLines.{words_of}
use Rattle.deck_values.specs.Edges.{edge_of}
use Rattle.deck_values.specs.Lists.{fault_if, list_on}
use Rattle.deck_words.specs.Faults.{when_read, with_fault}
use Rattle.deck_words.specs.declared.fault.LineFault.{LineFault}
use Rattle.deck_words.specs.declared.keyword.Keyword.TheVariants.{Neighboring, Sites}
use Rattle.deck_words.specs.declared.kind.TheConstants.{BAD_EDGE, NOT_CONNECTED}
use Rattle.pattern_rows.specs.WordLine.{word_line}
use Rattle.pattern_types.specs.Connected.{is_connected}
use Rattle.pattern_types.specs.Edges.{are_adjacent, edge_set, is_bad_edge}

-- an edge between two different vertices of so many
abbrev pub edge_among : ℕ → Option (ℕ × ℕ) → Result (ℕ × ℕ) ℕ
edge_among sites None = Err BAD_EDGE
edge_among sites (Some edge) = if is_bad_edge sites edge then Err BAD_EDGE else Ok edge

-- the edge that a word writes in a pattern of so many sites
abbrev pub pattern_edge : ℕ → List ℕ → Result (ℕ × ℕ) ℕ
pattern_edge sites word = edge_among sites (edge_of word)

-- some edges, each once, where they connect all sites
abbrev pub connecting : ℕ → ℕ → List (ℕ × ℕ) → Result (List (ℕ × ℕ)) LineFault
connecting sites line edges = with_fault (fault_if (not (is_connected edges sites)) line NOT_CONNECTED) (Ok (edge_set (are_adjacent edges)))

-- the edges on a line, where the number of sites has no fault; else none of them is looked at
abbrev pub edges_on : Option ℕ → ℕ → List (List ℕ) → Result (List (ℕ × ℕ)) LineFault
edges_on None line words = Ok []
edges_on (Some sites) line words = when_read (connecting sites line) (list_on (pattern_edge sites) None line words)

-- The edges of a cluster or a step. Where it has no `neighboring` there are none, and sites that are not connected are a
-- fault of the line that states their number.
abbrev pub edges_in : Option ℕ → BlockLines → Result (List (ℕ × ℕ)) LineFault
edges_in sites block =
    line_value_or (edges_on sites (word_line Sites block) []) (λ item. edges_on sites item.line.number (words_of item)) Neighboring block.items
