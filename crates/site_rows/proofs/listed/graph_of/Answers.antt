use Rattle.std.proofs.Common.{◌∙◌, ap, map, sym}
use Rattle.std.specs.List.{range_with_len}
use Rattle.std.proofs.lemmas.List.{length-map}
use Rattle.std.proofs.lemmas.Option.{none-some}
use Rattle.lattice_core.specs.Fault.{first_fault, lattice_from}
use Rattle.lattice_core.specs.SiteList.{number_lists}
use Rattle.site_rows.specs.Listed.{type_at}
use Rattle.site_rows.specs.ReadRows.{row_at}
use Rattle.site_rows.proofs.FullRows.{no_first_fault}
use Rattle.site_rows.proofs.listed.graph_of.Goals as goal

pub unreachable-requires : goal.unreachable-requires
unreachable-requires c =
    let f = row_at c.args.bytes.now in
    let rows = c.args.rows.now in
    let none = no_first_fault c.args.sites (map f rows) c.requires.faultless (length-map rows f ∙ c.requires.full) in
    none-some c.in-Err.field-0 (sym none ∙ ap first_fault (sym c.in_ok-types.ensures.lists) ∙ c.in-Err.ensures.fault)

pub returns : goal.returns
returns c =
    let rows = map (row_at c.args.bytes.now) c.args.rows.now in
    let types = map (type_at c.args.index.now rows) (range_with_len 0 c.args.sites) in
    c.in-Ok.ensures.graph
    ∙ ap (λ ts. lattice_from ts (number_lists c.in_ok-types.lists.items)) c.in_ok-types.ensures.types
    ∙ ap (lattice_from types) c.in_ok-types.ensures.lists
