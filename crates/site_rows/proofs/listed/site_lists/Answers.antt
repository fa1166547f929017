use Rattle.std.proofs.Common.{◌≡◌, ◌∙◌, ap, arith, drop, length, map}
use Rattle.std.specs.List.{range_with_len}
use Rattle.std.proofs.lemmas.List.{length-replicate, take_at}
use Rattle.lattice_core.specs.SiteList.{number_lists}
use Rattle.site_rows.specs.Listed.{neighbours_at, type_at}
use Rattle.site_rows.specs.ReadRows.{row_at}
use Rattle.site_rows.proofs.Placed.{first_lists, first_types, list_total}
use Rattle.site_rows.proofs.listed.site_lists.Goals as goal

pub returns-clause-types : goal.returns-clause-types
returns-clause-types c =
    let rows = map (row_at c.args.bytes.now) c.args.rows.now in
    let names = c.args.index.now in
    let types = c.place_rows.new.types in
    let zeros = c.as_mut_slice.ensures.value ∙ c.in_ok-types.ensures.items_if_clones_equal (λ y same. same) in
    let long : length types ≡ c.args.sites = c.place_rows.auto.types ∙ ap length zeros ∙ length-replicate c.args.sites 0 in
    take_at types (drop (length types) c.in_ok-types.types.items) c.in_ok-types.types.len (omega arith)
    ∙ c.in_ok-place_rows.ensures.types (first_types names c.as_mut_slice.result.now c.args.sites zeros)
    ∙ ap (λ n. map (type_at names rows) (range_with_len 0 n)) long

pub returns-clause-lists : goal.returns-clause-lists
returns-clause-lists c =
    let rows = map (row_at c.args.bytes.now) c.args.rows.now in
    let lists = c.place_rows.new.lists in
    let first = c.as_mut_slice-2.ensures.value in
    let total = list_total c.in_ok-lists.lists.items c.args.sites c.in_ok-lists.ensures in
    let many : length lists ≡ c.args.sites = c.place_rows.auto.lists ∙ ap length first ∙ total in
    ap number_lists (take_at lists (drop (length lists) c.in_ok-lists.lists.items) c.in_ok-lists.lists.len (omega arith))
    ∙ c.in_ok-place_rows.ensures.lists
    (first_lists c.as_mut_slice-2.result.now c.args.sites (ap number_lists first ∙ c.in_ok-lists.ensures))
    ∙ ap (λ n. map (neighbours_at rows) (range_with_len 0 n)) many
