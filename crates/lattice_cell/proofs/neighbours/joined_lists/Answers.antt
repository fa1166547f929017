use Rattle.std.proofs.Common.{◌≡◌, ◌*◌, ◌∙◌, length, arith}
use Rattle.std.proofs.lemmas.List.{length-map}
use Rattle.std.specs.declared.vec.Vec.{Vec}
use Rattle.std.specs.declared.alloc.Global.{Global}
use Rattle.kmc_base.specs.declared.ids.SiteId.{SiteId}
use Rattle.lattice_core.specs.SiteList.{site_numbers, number_lists}
use Rattle.lattice_cell.proofs.Joining.{named-more, joined_by-all}
use Rattle.lattice_cell.proofs.Merged.{merged-neighbour_lists}
use Rattle.lattice_cell.proofs.neighbours.joined_lists.Goals as goal

pub loop-join-preserved : goal.loop-join-preserved
loop-join-preserved c =
    let r = c.args.repeats in
    record {
      count = c.in_ok-join_cells.ensures.count ∙ c.loop-join.invariant.count;
      named = named-more r.nx r.ny r.sites c.args.joins.now c.loop-join.join-index _ _ (omega arith) c.loop-join.invariant.named
          c.in_ok-join_cells.ensures.more;
    }

pub returns-clause-lists : goal.returns-clause-lists
returns-clause-lists c =
    let r = c.args.repeats in
    let lists = c.loop-join.neighbours.lists in
    let count : length (number_lists lists.items) ≡ r.nx * r.ny * r.sites =
    omega (
      arith,
      length-map lists.items (λ (v : Vec SiteId Global). site_numbers v.items),
      lists.ok.0,
      c.loop-join.invariant.count,
    ) in
    merged-neighbour_lists r.nx r.ny r.sites c.args.joins.now (number_lists lists.items) count
    (λ s t. c.loop-join.invariant.named s t ∙ joined_by-all r.nx r.ny r.sites c.args.joins.now c.loop-join.join-index s t (omega arith))
