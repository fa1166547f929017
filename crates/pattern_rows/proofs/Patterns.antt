-- What is read without a fault makes a pattern.
use Rattle.std.proofs.Common.{◌≡◌, ◌∙◌, sym, ℕ, ◌≤◌, Bool, List, length, map, Some, Ok, false, subst}
use Rattle.std.proofs.lemmas.List.{length-map}
use Rattle.std.proofs.lemmas.Result.{IfOk-at_ok}
use Rattle.std.specs.List.{list_any}
use Rattle.deck_shape.specs.Blocks.{BlockLines}
use Rattle.deck_words.specs.declared.keyword.Keyword.{Keyword}
use Rattle.pattern_rows.proofs.ReadParts.{AreRows, Connect, edges-hold, rows-hold, sites-hold}
use Rattle.pattern_rows.proofs.RowsApart.{dentates_apart, species_apart}
use Rattle.pattern_rows.specs.Edges.{edges_in}
use Rattle.pattern_rows.specs.Patterns.{MakePattern, wanted_of}
use Rattle.pattern_rows.specs.Sites.{sites_in}
use Rattle.pattern_rows.specs.States.{StateWords, states_in}
use Rattle.pattern_types.specs.Edges.{are_adjacent, is_bad_edge}
use Rattle.pattern_types.specs.Walk.{IsConnected}

sound_parts : (sites : ℕ) (edges : List (ℕ × ℕ)) (rows : List StateWords) → (1 ≤ sites) × (sites ≤ 8) → Connect sites edges → AreRows sites rows
    → MakePattern sites edges rows
sound_parts sites edges rows range connect are species types typed =
    let many : length (map (wanted_of species) rows) ≡ sites = length-map rows (wanted_of species) ∙ are.many in
    record {
      some = subst (λ n. 1 ≤ n) (sym many) range.0;
      few = subst (λ n. n ≤ 8) (sym many) range.1;
      typed = typed ∙ sym many;
      edged = subst (λ n. list_any (is_bad_edge n) edges ≡ false) (sym many) connect.edged;
      connected = subst (λ n. IsConnected (are_adjacent edges) n) (sym many) connect.connected;
      dentates = dentates_apart species rows are.apart;
      species = species_apart species rows are.apart;
    }

-- the sites, the edges and the rows of a block make a pattern
pub makes_pattern : (block : BlockLines) (takes_any : Bool) (keyword : Keyword) (sites : ℕ) (edges : List (ℕ × ℕ)) (rows : List StateWords)
    → sites_in block ≡ Ok sites → edges_in (Some sites) block ≡ Ok edges → states_in takes_any (Some sites) keyword block ≡ Ok rows
    → MakePattern sites edges rows
makes_pattern block takes_any keyword sites edges rows sites_are edges_are rows_are =
    let range = IfOk-at_ok (λ n. (1 ≤ n) × (n ≤ 8)) sites_are (sites-hold block) in
    sound_parts sites edges rows range
    (IfOk-at_ok (Connect sites) edges_are (edges-hold sites block range.0 range.1))
    (IfOk-at_ok (AreRows sites) rows_are (rows-hold takes_any sites keyword block))
