use Rattle.std.proofs.Common.{◌≡◌, ◌∙◌, IfOk, ap, length, map, subst, sym}
use Rattle.std.proofs.lemmas.List.{length-map}
use Rattle.dec_text.specs.Spans.{bytes_at}
use Rattle.deck_shape.specs.declared.name.Name.{Name}
use Rattle.lattice_cell.specs.Faultless.{IsFaultlessCell}
use Rattle.lattice_cell.specs.Periodic.{periodic_lattice}
use Rattle.site_rows.specs.TypeWords.{type_of}
use Rattle.lattice_deck.specs.Joins.{join_from}
use Rattle.lattice_deck.proofs.Readings.{handed_on}
use Rattle.lattice_deck.proofs.graphs.cell_graph.Goals as goal

pub or_out_of_memory-requires : goal.or_out_of_memory-requires
or_out_of_memory-requires c =
    let nx = c.args.repeats.0 in
    let ny = c.args.repeats.1 in
    let types_are = c.deref.ensures.value ∙ c.in_ok-types.ensures in
    let count : length c.deref.result.now ≡ length c.args.words.now =
    ap length types_are ∙ length-map c.args.words.now (λ (word : Name). type_of c.in_ok-index.index (bytes_at c.args.bytes.now word.span)) in
    let joins_are : c.deref-2.result.now ≡ map join_from c.args.rows.now = c.deref-2.ensures.value ∙ c.in_ok-joins.ensures.value in
    c.expand_periodic-graph.ensures.faultless
    (subst (λ n. IsFaultlessCell nx ny n c.deref-2.result.now) (sym count)
    (subst (IsFaultlessCell nx ny (length c.args.words.now)) (sym joins_are) c.requires.faultless))

pub returns : goal.returns
returns c =
    let text = c.args.bytes.now in
    let words = c.args.words.now in
    let nx = c.args.repeats.0 in
    let ny = c.args.repeats.1 in
    handed_on _ c.expand_periodic-graph.result c.or_out_of_memory.result c.or_out_of_memory.ensures
    (subst (λ lattice. IfOk c.expand_periodic-graph.result (λ g. g ≡ lattice))
    (ap (λ types. periodic_lattice nx ny types c.deref-2.result.now)
    (c.deref.ensures.value ∙ c.in_ok-types.ensures ∙ ap (λ names. map (λ word. type_of names (bytes_at text word.span)) words) c.in_ok-index.ensures)
    ∙ ap (periodic_lattice nx ny (map (λ word. type_of (map (λ name. name.items) c.args.names.now) (bytes_at text word.span)) words))
    (c.deref-2.ensures.value ∙ c.in_ok-joins.ensures.value))
    c.expand_periodic-graph.ensures.graph)
