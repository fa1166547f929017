-- What holds of the number of sites, the edges and the rows of states that are read without a fault.
use Rattle.std.proofs.Common.{◌≡◌, ◌∙◌, sym, ap, ℕ, ◌≤◌, ◌==◌, Bool, true, false, not, IfOk, List, [], ◌∷◌, Option, None, Some, Result, Ok, Err}
use Rattle.std.proofs.Common.{length, map, suc, refl, subst, if◌then◌else◌}
use Rattle.std.specs.List.{AllByRecursion, AllPairs, list_any}
use Rattle.std.proofs.lemmas.Bool.{eq-eqb, eqb-true, not-false, or_from}
use Rattle.std.proofs.lemmas.List.{length-map}
use Rattle.std.proofs.lemmas.Result.{IfOk-weaker}
use Rattle.deck_shape.proofs.BlockValues.{line_value_or-holds, word-holds}
use Rattle.deck_shape.specs.BlockValues.{missing_word}
use Rattle.deck_shape.specs.Blocks.{BlockLines}
use Rattle.deck_shape.specs.WordLines.{words_of}
use Rattle.deck_values.proofs.EarliestFaults.{none_earliest}
use Rattle.deck_values.proofs.Ranges.{whole-holds}
use Rattle.deck_values.proofs.Values.{AreSo, list_on-holds, unless-holds}
use Rattle.deck_values.specs.Edges.{edge_of}
use Rattle.deck_values.specs.Lists.{fault_if, has_other_length, list_on}
use Rattle.deck_values.specs.Numbers.{whole_in}
use Rattle.deck_values.specs.Readings.{least_fault, values_of}
use Rattle.deck_words.specs.Faults.{all_of, at_line, earliest, when_read, with_fault}
use Rattle.deck_words.specs.declared.fault.LineFault.{LineFault}
use Rattle.deck_words.specs.declared.keyword.Keyword.{Keyword}
use Rattle.deck_words.specs.declared.keyword.Keyword.TheVariants.{Neighboring, Sites}
use Rattle.deck_words.specs.declared.kind.TheConstants.{BAD_EDGE, LIST_LENGTH, NOT_CONNECTED, ROW_COUNT}
use Rattle.dec_text.specs.Lines.{WordLine}
use Rattle.pattern_rows.proofs.RowsApart.{AreApart, rows_apart}
use Rattle.pattern_rows.specs.Edges.{connecting, edge_among, edges_in, edges_on, pattern_edge}
use Rattle.pattern_rows.specs.Sites.{sites_in}
use Rattle.pattern_rows.specs.States.{StateWords, fault_below, state_row, state_rows, states_in, states_on}
use Rattle.pattern_rows.specs.WordLine.{word_line}
use Rattle.pattern_rows.specs.declared.ranges.TheConstants.{VERTEX_COUNT}
use Rattle.pattern_types.proofs.ConnectedLemmas.{connected-law}
use Rattle.pattern_types.proofs.EdgeLemmas.{adjacent-edge_set, edged-edge_set}
use Rattle.pattern_types.specs.Connected.{is_connected}
use Rattle.pattern_types.specs.Edges.{are_adjacent, edge_set, is_bad_edge}
use Rattle.pattern_types.specs.Walk.{IsConnected}

-- from 1 to 8 sites
pub sites-hold : (block : BlockLines) → IfOk (sites_in block) (λ n. (1 ≤ n) × (n ≤ 8))
sites-hold block =
    word-holds (λ n. (1 ≤ n) × (n ≤ 8)) (missing_word block.end_line) (whole_in VERTEX_COUNT) Sites block.items tt (whole-holds VERTEX_COUNT)

-- edges between the sites, which connect them
pub record Connect (sites : ℕ) (edges : List (ℕ × ℕ)) : Type 0 where
  pub edged : list_any (is_bad_edge sites) edges ≡ false
  pub connected : IsConnected (are_adjacent edges) sites

-- an edge between two of so many sites
abbrev IsEdge : ℕ → ℕ × ℕ → Type 0
IsEdge sites edge = is_bad_edge sites edge ≡ false

unless_bad : (sites : ℕ) (edge : ℕ × ℕ) (bad : Bool) → is_bad_edge sites edge ≡ bad
    → IfOk (if bad then Err BAD_EDGE else Ok edge) (IsEdge sites)
unless_bad sites edge true is = tt
unless_bad sites edge false is = is

edge_among-holds : (sites : ℕ) (edge : Option (ℕ × ℕ)) → IfOk (edge_among sites edge) (IsEdge sites)
edge_among-holds sites None = tt
edge_among-holds sites (Some edge) = unless_bad sites edge (is_bad_edge sites edge) refl

all_good : (sites : ℕ) (edges : List (ℕ × ℕ)) → AllByRecursion (IsEdge sites) edges → list_any (is_bad_edge sites) edges ≡ false
all_good sites [] all = refl
all_good sites (edge ∷ edges) all = or_from (is_bad_edge sites edge) (list_any (is_bad_edge sites) edges) all.0 (all_good sites edges all.1)

-- a list of any length is one of the length that it has
any_length : {X : Type 0} (read : List ℕ → Result X ℕ) (line : ℕ) (words : List (List ℕ))
    → list_on read (Some (length words)) line words ≡ list_on read None line words
any_length read line words =
    ap (λ same. with_fault (fault_if (not same) line LIST_LENGTH) (all_of (map (λ word. at_line line (read word)) words)))
    (eq-eqb (length words) (length words) refl)

read_edges : (sites line : ℕ) (words : List (List ℕ))
    → IfOk (list_on (pattern_edge sites) None line words) (λ edges. list_any (is_bad_edge sites) edges ≡ false)
read_edges sites line words =
    subst (λ read. IfOk read (λ edges. list_any (is_bad_edge sites) edges ≡ false)) (any_length (pattern_edge sites) line words)
    (IfOk-weaker (list_on (pattern_edge sites) (Some (length words)) line words) (AreSo (IsEdge sites) (length words)) _
    (λ edges so. all_good sites edges so.1)
    (list_on-holds (IsEdge sites) (pattern_edge sites) (length words) line words (λ word. edge_among-holds sites (edge_of word))))

kept_edges : (sites : ℕ) (edges : List (ℕ × ℕ)) → 1 ≤ sites → sites ≤ 8 → list_any (is_bad_edge sites) edges ≡ false
    → is_connected edges sites ≡ true → Connect sites (edge_set (are_adjacent edges))
kept_edges sites edges some few edged whole =
    record {
      edged = edged-edge_set sites edges edged;
      connected = subst (λ f. IsConnected f sites) (sym (adjacent-edge_set sites edges few edged)) ((connected-law edges sites some edged).0 whole);
    }

when_read-holds : {X Y : Type 0} (P : X → Type 0) (Q : Y → Type 0) (read : X → Result Y LineFault) (r : Result X LineFault)
    → IfOk r P → ((x : X) → P x → IfOk (read x) Q) → IfOk (when_read read r) Q
when_read-holds P Q read (Ok x) p q = q x p
when_read-holds P Q read (Err fault) p q = tt

edges_on-hold : (sites line : ℕ) (words : List (List ℕ)) → 1 ≤ sites → sites ≤ 8 → IfOk (edges_on (Some sites) line words) (Connect sites)
edges_on-hold sites line words some few =
    when_read-holds (λ edges. list_any (is_bad_edge sites) edges ≡ false) (Connect sites) (connecting sites line)
    (list_on (pattern_edge sites) None line words) (read_edges sites line words)
    (λ edges edged. unless-holds (Connect sites) (not (is_connected edges sites)) line NOT_CONNECTED (Ok (edge_set (are_adjacent edges)))
    (λ whole. kept_edges sites edges some few edged (not-false (is_connected edges sites) whole)))

pub edges-hold : (sites : ℕ) (block : BlockLines) → 1 ≤ sites → sites ≤ 8 → IfOk (edges_in (Some sites) block) (Connect sites)
edges-hold sites block some few =
    line_value_or-holds (Connect sites) (edges_on (Some sites) (word_line Sites block) []) (λ item. edges_on (Some sites) item.line.number (words_of item))
    Neighboring block.items (edges_on-hold sites (word_line Sites block) [] some few)
    (λ item. edges_on-hold sites item.line.number (words_of item) some few)

-- so many rows, which are apart
pub record AreRows (sites : ℕ) (rows : List StateWords) : Type 0 where
  pub many : length rows ≡ sites
  pub apart : AllPairs AreApart rows

-- where no reading has a fault each has a value
all_valued : {X : Type 0} (readings : List (Result X LineFault)) → least_fault readings ≡ None → length (values_of readings) ≡ length readings
all_valued [] none = refl
all_valued (Ok value ∷ readings) none = ap suc (all_valued readings none)
all_valued (Err fault ∷ readings) none = let parts = none_earliest (Some fault) (least_fault readings) none in absurd (cc)

unless_fault : {X : Type 0} (P : X → Type 0) (fault : Option LineFault) (x : X) → (fault ≡ None → P x) → IfOk (with_fault fault (Ok x)) P
unless_fault P None x p = p refl
unless_fault P (Some fault) x p = tt

state_rows-hold : (takes_any : Bool) (sites : ℕ) (lines : List WordLine) → length lines ≡ sites → IfOk (state_rows takes_any lines) (AreRows sites)
state_rows-hold takes_any sites lines many =
    let readings = map (state_row takes_any) lines in
    unless_fault (AreRows sites) (earliest (least_fault readings) (fault_below [] (values_of readings))) (values_of readings) (λ none.
    let parts = none_earliest (least_fault readings) (fault_below [] (values_of readings)) none in
    record {
      many = all_valued readings parts.0 ∙ length-map lines (state_row takes_any) ∙ many;
      apart = rows_apart (values_of readings) parts.1;
    })

same_length : (members count : ℕ) → not (members == count) ≡ false → members ≡ count
same_length members count same = eqb-true members count (not-false (members == count) same)

pub rows-hold : (takes_any : Bool) (sites : ℕ) (keyword : Keyword) (block : BlockLines)
    → IfOk (states_in takes_any (Some sites) keyword block) (AreRows sites)
rows-hold takes_any sites keyword block =
    line_value_or-holds (AreRows sites) (missing_word block.end_line) (states_on takes_any (Some sites)) keyword block.items tt
    (λ item. unless-holds (AreRows sites) (has_other_length (Some sites) (length item.rows)) item.line.number ROW_COUNT
    (state_rows takes_any item.rows) (λ same. state_rows-hold takes_any sites item.rows (same_length (length item.rows) sites same)))
