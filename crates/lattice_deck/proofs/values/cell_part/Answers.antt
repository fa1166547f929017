use Rattle.std.proofs.Common.{◌≡◌, ◌∙◌, ◌*◌, ◌≤◌, ℕ, List, Ok, Result, Some, ap, length, map, subst, sym}
use Rattle.std.proofs.lemmas.List.{length-map}
use Rattle.std.specs.Result.{result_ok}
use Rattle.std.specs.declared.alloc.Global.{Global}
use Rattle.std.specs.declared.vec.Vec.{Vec}
use Rattle.deck_shape.specs.BlockValues.{required}
use Rattle.deck_shape.specs.Blocks.{block_at}
use Rattle.deck_shape.specs.Names.{name_at}
use Rattle.deck_shape.specs.declared.name.Name.{Name}
use Rattle.deck_words.specs.Faults.{value_map}
use Rattle.deck_words.specs.declared.fault.LineFault.{LineFault}
use Rattle.deck_words.specs.declared.keyword.Keyword.TheVariants.{NeighboringStructure, RepeatCell}
use Rattle.kmc_base.specs.declared.limits.TheConstants.{MAX_SITES}
use Rattle.lattice_cell.specs.Faultless.{IsFaultlessCell}
use Rattle.lattice_deck.specs.Ends.{AreEnds}
use Rattle.lattice_deck.specs.Joins.{join_from, joins_on}
use Rattle.lattice_deck.specs.Parts.{cell_joins, cell_sizes, cell_values, type_words}
use Rattle.lattice_deck.specs.Sizes.{repeats_on}
use Rattle.lattice_deck.specs.declared.joins.JoinRow.{JoinRow}
use Rattle.lattice_deck.specs.declared.sizes.Sizes.{Sizes}
use Rattle.site_rows.specs.declared.type_word.TheConstants.{MAX_SITE_TYPES}
use Rattle.lattice_deck.proofs.CellFacts.{cell_chain, cell_facts, cell_read, cell_sound}
use Rattle.lattice_deck.proofs.Readings.{is_ok}
use Rattle.lattice_deck.proofs.SizesSound.{sizes_sound}
use Rattle.lattice_deck.proofs.values.cell_part.Goals as goal

pub cell_joins-requires : goal.cell_joins-requires
cell_joins-requires c =
    let block = block_at c.args.bytes.now c.args.block.now in
    let sites : c.ok-2.result ≡ (cell_sizes block).sites = c.ok-2.ensures.value ∙ ap result_ok c.sites_in-sites.ensures in
    let repeats : c.ok-3.result ≡ (cell_sizes block).repeats =
    c.ok-3.ensures.value ∙ ap result_ok (c.cell_repeats-repeats.ensures
    ∙ ap (λ s. required RepeatCell block (repeats_on s)) (c.ok.ensures.value ∙ ap result_ok c.sites_in-sites.ensures)) in
    rw (sites, repeats) (sizes_sound block)

pub cell_values-requires : goal.cell_values-requires
cell_values-requires c =
    let text = c.args.bytes.now in
    let block = block_at text c.args.block.now in
    let f = λ (n : Vec (Vec ℕ Global) Global). map (λ name. name.items) n.items in
    let g = λ (w : Vec Name Global). map (name_at text) w.items in
    let h = λ (j : Vec JoinRow Global). j.items in
    let sites_are = c.sites_in-sites.ensures in
    let repeats_are = c.cell_repeats-repeats.ensures ∙ ap (λ s. required RepeatCell block (repeats_on s)) (c.ok.ensures.value ∙ ap result_ok
    sites_are) in
    let words_are = c.in_ok-words.ensures ∙ ap (λ s. type_words s block) (c.ok-4.ensures.value ∙ ap result_ok sites_are) in
    let sites : c.ok-2.result ≡ (cell_sizes block).sites = c.ok-2.ensures.value ∙ ap result_ok sites_are in
    let repeats : c.ok-3.result ≡ (cell_sizes block).repeats = c.ok-3.ensures.value ∙ ap result_ok repeats_are in
    let chain = cell_chain c.cell_unused-unused.result c.sites_in-sites.result c.cell_repeats-repeats.result c.in_ok-names.names
    c.in_ok-words.words c.in_ok-joins.joins c.both.result c.both-2.result c.both-3.result c.both-read.result c.with_fault.result
    c.both.ensures c.both-2.ensures c.both-3.ensures c.both-read.ensures c.with_fault.ensures in
    let facts = cell_facts f g h block c.cell_unused-unused.result c.sites_in-sites.result c.cell_repeats-repeats.result c.in_ok-names.names
    c.in_ok-words.words c.in_ok-joins.joins sites_are repeats_are c.in_ok-names.ensures words_are c.in-Ok.cell.0.0 c.in-Ok.cell.0.1
    c.in-Ok.cell.1.0 c.in-Ok.cell.1.1.0 c.in-Ok.cell.1.1.1 (chain ∙ c.in-Ok.is) in
    let are = facts.0 in
    let many : length (g c.in-Ok.cell.1.1.0) ≡ length c.in-Ok.cell.1.1.0.items = length-map c.in-Ok.cell.1.1.0.items (name_at text) in
    let named : length (f c.in-Ok.cell.1.0) ≡ length c.in-Ok.cell.1.0.items = length-map c.in-Ok.cell.1.0.items (λ (name : Vec ℕ Global).
    name.items) in
    let ends = is_ok (λ (rows : Vec JoinRow Global). AreEnds c.ok-2.result rows.items) c.in_ok-joins.joins c.in-Ok.cell.1.1.1 facts.2
    c.in_ok-joins.ensures.ends in
    let known : c.ok-2.result ≡ Some (length c.in-Ok.cell.1.1.0.items) =
    c.ok-2.ensures.value ∙ ap result_ok facts.1 ∙ ap (λ n. Some n) (sym (sym many ∙ are.count)) in
    let sized : Sizes → Result (List JoinRow) LineFault = λ z. required NeighboringStructure block (joins_on z) in
    let repeated : c.ok-3.result ≡ (cell_sizes block).repeats = c.ok-3.ensures.value ∙ ap result_ok repeats_are in
    let sited : c.ok-2.result ≡ (cell_sizes block).sites = c.ok-2.ensures.value ∙ ap result_ok sites_are in
    let joins_are : value_map h c.in_ok-joins.joins ≡ cell_joins block =
    c.in_ok-joins.ensures.value
    ∙ ap (λ s. sized (record { sites = s; repeats = c.ok-3.result })) sited
    ∙ ap (λ r. sized (record { sites = (cell_sizes block).sites; repeats = r })) repeated in
    let all_ends = subst (λ n. AreEnds n c.in-Ok.cell.1.1.1.items) known ends in
    let count : c.in-Ok.cell.0.0 ≡ length c.in-Ok.cell.1.1.0.items = sym (sym many ∙ are.count) in
    let sound = cell_sound f g h block c.cell_unused-unused.result c.sites_in-sites.result c.cell_repeats-repeats.result c.in_ok-names.names
    c.in_ok-words.words c.in_ok-joins.joins sites_are repeats_are c.in_ok-names.ensures words_are c.in-Ok.cell.0.0 c.in-Ok.cell.0.1
    c.in-Ok.cell.1.0 c.in-Ok.cell.1.1.0 c.in-Ok.cell.1.1.1 joins_are (chain ∙ c.in-Ok.is)
    (subst (λ n. AreEnds (Some n) c.in-Ok.cell.1.1.1.items) (sym count) all_ends) in
    record {
      some = are.some;
      some_sites = subst (λ n. 1 ≤ n) many are.some_sites;
      few = subst (λ n. c.in-Ok.cell.0.1.0 * c.in-Ok.cell.0.1.1 * n ≤ MAX_SITES) many are.few;
      names = subst (λ n. n ≤ MAX_SITE_TYPES) named are.few_names;
      ends = all_ends;
      faultless = subst (λ n. IsFaultlessCell c.in-Ok.cell.0.1.0 c.in-Ok.cell.0.1.1 n (map join_from c.in-Ok.cell.1.1.1.items)) count sound;
    }

pub returns-in_ok-cell_values-in-Ok : goal.returns-in_ok-cell_values-in-Ok
returns-in_ok-cell_values-in-Ok c =
    let text = c.args.bytes.now in
    let block = block_at text c.args.block.now in
    let f = λ (n : Vec (Vec ℕ Global) Global). map (λ name. name.items) n.items in
    let g = λ (w : Vec Name Global). map (name_at text) w.items in
    let h = λ (j : Vec JoinRow Global). j.items in
    let sites_are = c.sites_in-sites.ensures in
    let repeats_are = c.cell_repeats-repeats.ensures ∙ ap (λ s. required RepeatCell block (repeats_on s)) (c.ok.ensures.value ∙ ap result_ok
    sites_are) in
    let words_are = c.in_ok-words.ensures ∙ ap (λ s. type_words s block) (c.ok-4.ensures.value ∙ ap result_ok sites_are) in
    let sites : c.ok-2.result ≡ (cell_sizes block).sites = c.ok-2.ensures.value ∙ ap result_ok sites_are in
    let repeats : c.ok-3.result ≡ (cell_sizes block).repeats = c.ok-3.ensures.value ∙ ap result_ok repeats_are in
    let chain = cell_chain c.cell_unused-unused.result c.sites_in-sites.result c.cell_repeats-repeats.result c.in_ok-names.names
    c.in_ok-words.words c.in_ok-joins.joins c.both.result c.both-2.result c.both-3.result c.both-read.result c.with_fault.result
    c.both.ensures c.both-2.ensures c.both-3.ensures c.both-read.ensures c.with_fault.ensures in
    let sized : Sizes → Result (List JoinRow) LineFault = λ z. required NeighboringStructure block (joins_on z) in
    let joins_are : value_map h c.in_ok-joins.joins ≡ cell_joins block =
    c.in_ok-joins.ensures.value
    ∙ ap (λ s. sized (record { sites = s; repeats = c.ok-3.result })) sites
    ∙ ap (λ r. sized (record { sites = (cell_sizes block).sites; repeats = r })) repeats in
    let all = cell_read f g h block c.cell_unused-unused.result c.sites_in-sites.result c.cell_repeats-repeats.result c.in_ok-names.names
    c.in_ok-words.words c.in_ok-joins.joins sites_are repeats_are c.in_ok-names.ensures words_are joins_are c.cell_unused-unused.ensures in
    ap (λ v. Ok v) c.in_ok-cell_values-in-Ok.ensures
    ∙ sym (ap (value_map cell_values) (all ∙ ap (value_map (λ v. (v.0, (f v.1.0, (g v.1.1.0, h v.1.1.1))))) (chain ∙ c.in-Ok.is)))

pub returns-in-Err : goal.returns-in-Err
returns-in-Err c =
    let text = c.args.bytes.now in
    let block = block_at text c.args.block.now in
    let f = λ (n : Vec (Vec ℕ Global) Global). map (λ name. name.items) n.items in
    let g = λ (w : Vec Name Global). map (name_at text) w.items in
    let h = λ (j : Vec JoinRow Global). j.items in
    let sites_are = c.sites_in-sites.ensures in
    let repeats_are = c.cell_repeats-repeats.ensures ∙ ap (λ s. required RepeatCell block (repeats_on s)) (c.ok.ensures.value ∙ ap result_ok
    sites_are) in
    let words_are = c.in_ok-words.ensures ∙ ap (λ s. type_words s block) (c.ok-4.ensures.value ∙ ap result_ok sites_are) in
    let sites : c.ok-2.result ≡ (cell_sizes block).sites = c.ok-2.ensures.value ∙ ap result_ok sites_are in
    let repeats : c.ok-3.result ≡ (cell_sizes block).repeats = c.ok-3.ensures.value ∙ ap result_ok repeats_are in
    let chain = cell_chain c.cell_unused-unused.result c.sites_in-sites.result c.cell_repeats-repeats.result c.in_ok-names.names
    c.in_ok-words.words c.in_ok-joins.joins c.both.result c.both-2.result c.both-3.result c.both-read.result c.with_fault.result
    c.both.ensures c.both-2.ensures c.both-3.ensures c.both-read.ensures c.with_fault.ensures in
    let sized : Sizes → Result (List JoinRow) LineFault = λ z. required NeighboringStructure block (joins_on z) in
    let joins_are : value_map h c.in_ok-joins.joins ≡ cell_joins block =
    c.in_ok-joins.ensures.value
    ∙ ap (λ s. sized (record { sites = s; repeats = c.ok-3.result })) sites
    ∙ ap (λ r. sized (record { sites = (cell_sizes block).sites; repeats = r })) repeats in
    let all = cell_read f g h block c.cell_unused-unused.result c.sites_in-sites.result c.cell_repeats-repeats.result c.in_ok-names.names
    c.in_ok-words.words c.in_ok-joins.joins sites_are repeats_are c.in_ok-names.ensures words_are joins_are c.cell_unused-unused.ensures in
    sym (ap (value_map cell_values) (all ∙ ap (value_map (λ v. (v.0, (f v.1.0, (g v.1.1.0, h v.1.1.1))))) (chain ∙ c.in-Err.is)))
