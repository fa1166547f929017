use Rattle.std.proofs.Common.{◌≡◌, ◌∙◌, ℕ, List, ap, map, sym}
use Rattle.std.proofs.lemmas.Simd.{map-map}
use Rattle.dec_text.specs.Spans.{bytes_at}
use Rattle.deck_shape.specs.Names.{NameWord, name_at}
use Rattle.deck_shape.specs.declared.name.Name.{Name}
use Rattle.lattice_cell.specs.Periodic.{periodic_lattice}
use Rattle.lattice_deck.specs.Joins.{join_from}
use Rattle.lattice_deck.specs.Parts.{LatticeValues}
use Rattle.lattice_deck.specs.declared.joins.JoinRow.{JoinRow}
use Rattle.site_rows.specs.TypeWords.{type_of}
use Rattle.lattice_deck.proofs.values.cell_values.Goals as goal

pub returns : goal.returns
returns c =
    let text = c.args.bytes.now in
    let graph = c.in_ok-graph.graph in
    let names = map (λ name. name.items) c.args.cell.1.0.items in
    let words = c.args.cell.1.1.0.items in
    let r = c.args.cell.0.1 in
    let names_now : c.deref.result.now ≡ c.args.cell.1.0.items = cc in
    let words_now : c.deref-2.result.now ≡ words = cc in
    let rows_now : c.deref-3.result.now ≡ c.args.cell.1.1.1.items = cc in
    let names_kept : c.new.result ≡ c.args.cell.1.0.items = cc in
    let words_kept : c.new-2.result ≡ words = cc in
    let made : List (List ℕ) → List Name → List JoinRow → LatticeValues = λ ns ws rows. record {
      lattice = periodic_lattice r.0 r.1 (map (λ word. type_of ns (bytes_at text word.span)) ws) (map join_from rows);
      type_names = names;
      type_words = map (name_at text) words;
    } in
    let kept : List (List ℕ) → List NameWord → LatticeValues = λ ns ws. record { lattice = graph; type_names = ns; type_words = ws } in
    ap (λ ns. kept (map (λ name. name.items) ns) (map (name_at text) c.new-2.result)) names_kept
    ∙ ap (λ ws. kept names (map (name_at text) ws)) words_kept
    ∙ ap (λ l. record { lattice = l; type_names = names; type_words = map (name_at text) words }) c.in_ok-graph.ensures
    ∙ ap (λ ns. made (map (λ name. name.items) ns) c.deref-2.result.now c.deref-3.result.now) names_now
    ∙ ap (λ ws. made names ws c.deref-3.result.now) words_now
    ∙ ap (λ rows. made names words rows) rows_now
    ∙ ap (λ ts. record {
      lattice = periodic_lattice r.0 r.1 ts (map join_from c.args.cell.1.1.1.items);
      type_names = names;
      type_words = map (name_at text) words;
    }) (sym (map-map (λ (word : NameWord). type_of names word.word.bytes) (name_at text) words))
