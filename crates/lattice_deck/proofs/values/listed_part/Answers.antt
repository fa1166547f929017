use Rattle.std.proofs.Common.{◌≡◌, ◌∙◌, ℕ, Ok, Result, ap, length, map, sym}
use Rattle.std.proofs.lemmas.List.{length-map}
use Rattle.std.specs.Result.{result_ok}
use Rattle.std.specs.declared.alloc.Global.{Global}
use Rattle.std.specs.declared.vec.Vec.{Vec}
use Rattle.deck_shape.specs.Blocks.{block_at}
use Rattle.deck_shape.specs.Names.{name_at, on_line}
use Rattle.deck_words.specs.Faults.{value_map}
use Rattle.deck_words.specs.declared.fault.LineFault.{LineFault}
use Rattle.lattice_deck.specs.Parts.{LatticeValues, listed_rows, listed_values}
use Rattle.site_rows.specs.Listed.{listed_lattice}
use Rattle.site_rows.specs.ReadRows.{row_at}
use Rattle.site_rows.specs.declared.row.ReadRow.{ReadRow}
use Rattle.lattice_deck.proofs.CellFacts.{listed_chain, listed_count, listed_facts, listed_read}
use Rattle.lattice_deck.proofs.values.listed_part.Goals as goal

pub listed_graph-requires-clause-some : goal.listed_graph-requires-clause-some
listed_graph-requires-clause-some c =
    let text = c.args.bytes.now in
    let block = block_at text c.args.block.now in
    let f = λ (n : Vec (Vec ℕ Global) Global). map (λ name. name.items) n.items in
    let g = λ (r : Vec ReadRow Global). map (row_at text) r.items in
    let sites_are = c.sites_in-sites.ensures in
    let chain = listed_chain c.listed_unused.result c.sites_in-sites.result c.in_ok-names.names c.in_ok-rows.rows c.both.result c.both-read.result
    c.with_fault.result c.both.ensures c.both-read.ensures c.with_fault.ensures in
    let facts = listed_facts f g block c.listed_unused.result c.sites_in-sites.result c.in_ok-names.names c.in_ok-rows.rows
    sites_are c.in_ok-names.ensures c.in-Ok.sites c.in-Ok.names c.in-Ok.rows (chain ∙ c.in-Ok.is) in
    facts.0

pub listed_graph-requires-clause-few : goal.listed_graph-requires-clause-few
listed_graph-requires-clause-few c =
    let text = c.args.bytes.now in
    let block = block_at text c.args.block.now in
    let f = λ (n : Vec (Vec ℕ Global) Global). map (λ name. name.items) n.items in
    let g = λ (r : Vec ReadRow Global). map (row_at text) r.items in
    let sites_are = c.sites_in-sites.ensures in
    let chain = listed_chain c.listed_unused.result c.sites_in-sites.result c.in_ok-names.names c.in_ok-rows.rows c.both.result c.both-read.result
    c.with_fault.result c.both.ensures c.both-read.ensures c.with_fault.ensures in
    let facts = listed_facts f g block c.listed_unused.result c.sites_in-sites.result c.in_ok-names.names c.in_ok-rows.rows
    sites_are c.in_ok-names.ensures c.in-Ok.sites c.in-Ok.names c.in-Ok.rows (chain ∙ c.in-Ok.is) in
    facts.1

pub listed_graph-requires-clause-names : goal.listed_graph-requires-clause-names
listed_graph-requires-clause-names c =
    let text = c.args.bytes.now in
    let block = block_at text c.args.block.now in
    let f = λ (n : Vec (Vec ℕ Global) Global). map (λ name. name.items) n.items in
    let g = λ (r : Vec ReadRow Global). map (row_at text) r.items in
    let sites_are = c.sites_in-sites.ensures in
    let chain = listed_chain c.listed_unused.result c.sites_in-sites.result c.in_ok-names.names c.in_ok-rows.rows c.both.result c.both-read.result
    c.with_fault.result c.both.ensures c.both-read.ensures c.with_fault.ensures in
    let facts = listed_facts f g block c.listed_unused.result c.sites_in-sites.result c.in_ok-names.names c.in_ok-rows.rows
    sites_are c.in_ok-names.ensures c.in-Ok.sites c.in-Ok.names c.in-Ok.rows (chain ∙ c.in-Ok.is) in
    let names_now : c.deref.result.now ≡ c.in-Ok.names.items = cc in
    let named : length c.deref.result.now ≡ length (f c.in-Ok.names) =
    ap length names_now ∙ sym (length-map c.in-Ok.names.items (λ (name : Vec ℕ Global). name.items)) in
    rw named facts.2

pub listed_graph-requires-clause-full : goal.listed_graph-requires-clause-full
listed_graph-requires-clause-full c =
    let text = c.args.bytes.now in
    let block = block_at text c.args.block.now in
    let f = λ (n : Vec (Vec ℕ Global) Global). map (λ name. name.items) n.items in
    let g = λ (r : Vec ReadRow Global). map (row_at text) r.items in
    let sites_are = c.sites_in-sites.ensures in
    let chain = listed_chain c.listed_unused.result c.sites_in-sites.result c.in_ok-names.names c.in_ok-rows.rows c.both.result c.both-read.result
    c.with_fault.result c.both.ensures c.both-read.ensures c.with_fault.ensures in
    let rows_are = c.in_ok-rows.ensures.rows ∙ ap (λ s. listed_rows s block) (c.ok.ensures.value ∙ ap result_ok sites_are) in
    let count = listed_count f g block c.listed_unused.result c.sites_in-sites.result c.in_ok-names.names c.in_ok-rows.rows
    sites_are c.in_ok-names.ensures c.in-Ok.sites c.in-Ok.names c.in-Ok.rows rows_are (chain ∙ c.in-Ok.is) in
    let rows_now : c.deref-in-Ok.result.now ≡ c.in-Ok.rows.items = cc in
    ap length rows_now ∙ sym (length-map c.in-Ok.rows.items (row_at text)) ∙ count

pub returns-in_ok-words_of-in-Ok : goal.returns-in_ok-words_of-in-Ok
returns-in_ok-words_of-in-Ok c =
    let text = c.args.bytes.now in
    let block = block_at text c.args.block.now in
    let f = λ (n : Vec (Vec ℕ Global) Global). map (λ name. name.items) n.items in
    let g = λ (r : Vec ReadRow Global). map (row_at text) r.items in
    let sites_are = c.sites_in-sites.ensures in
    let chain = listed_chain c.listed_unused.result c.sites_in-sites.result c.in_ok-names.names c.in_ok-rows.rows c.both.result c.both-read.result
    c.with_fault.result c.both.ensures c.both-read.ensures c.with_fault.ensures in
    let rows_are = c.in_ok-rows.ensures.rows ∙ ap (λ s. listed_rows s block) (c.ok.ensures.value ∙ ap result_ok sites_are) in
    let all = listed_read f g block c.listed_unused.result c.sites_in-sites.result c.in_ok-names.names c.in_ok-rows.rows
    sites_are c.in_ok-names.ensures rows_are c.listed_unused.ensures in
    let names_now : c.deref.result.now ≡ c.in-Ok.names.items = cc in
    let rows_now : c.deref-in-Ok.result.now ≡ c.in-Ok.rows.items = cc in
    let names_kept : c.new.result ≡ c.in-Ok.names.items = cc in
    let rows_kept : c.deref-in-Ok-2.result.now ≡ c.in-Ok.rows.items = cc in
    let words_kept : c.new-in-Ok.result ≡ c.in_ok-words_of-in-Ok.field-0.items = cc in
    let graph = c.in_ok-graph-in-Ok.graph in
    let names = f c.in-Ok.names in
    let rows = g c.in-Ok.rows in
    let words = map (λ row. on_line row.line row.type_word) rows in
    let result : LatticeValues → Result LatticeValues LineFault = λ v. Ok v in
    ap (λ ns. result (record { lattice = graph; type_names = map (λ name. name.items) ns; type_words = map (name_at text) c.new-in-Ok.result }))
    names_kept
    ∙ ap (λ ws. result (record { lattice = graph; type_names = names; type_words = map (name_at text) ws })) words_kept
    ∙ ap (λ ws. result (record { lattice = graph; type_names = names; type_words = ws }))
    (c.in_ok-words_of-in-Ok.ensures text ∙ ap (λ rs. map (λ row. on_line row.line row.type_word) (map (row_at text) rs)) rows_kept)
    ∙ ap (λ l. result (record { lattice = l; type_names = names; type_words = words })) c.in_ok-graph-in-Ok.ensures
    ∙ ap (λ ns. result (record {
      lattice = listed_lattice c.in-Ok.sites (map (λ name. name.items) ns) (map (row_at text) c.deref-in-Ok.result.now);
      type_names = names;
      type_words = words;
    })) names_now
    ∙ ap (λ rs. result (record { lattice = listed_lattice c.in-Ok.sites names (map (row_at text) rs); type_names = names; type_words = words }))
    rows_now
    ∙ sym (ap (value_map listed_values) (all ∙ ap (value_map (λ v. (v.0, (f v.1.0, g v.1.1)))) (chain ∙ c.in-Ok.is)))
