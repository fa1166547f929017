use Rattle.std.proofs.Common.{◌≡◌, ◌∙◌, ◌*◌, length, sym, arith}
use Rattle.std.proofs.lemmas.List.{length-map}
use Rattle.std.specs.declared.vec.Vec.{Vec}
use Rattle.std.specs.declared.alloc.Global.{Global}
use Rattle.kmc_base.specs.declared.ids.SiteId.{SiteId}
use Rattle.lattice_core.specs.SiteList.{site_numbers, number_lists}
use Rattle.lattice_cell.proofs.Crowded.{crowded-some, crowded-all}
use Rattle.lattice_cell.proofs.Joining.{named-more}
use Rattle.lattice_cell.proofs.crowding.crowds.Goals as goal

pub loop-join-preserved : goal.loop-join-preserved
loop-join-preserved c =
    let r = c.args.repeats in
    record {
      count = c.in_ok-join_cells.ensures.count ∙ c.loop-join.invariant.count;
      named = named-more r.nx r.ny r.sites c.args.joins.now c.loop-join.join-index _ _ (omega arith) c.loop-join.invariant.named
          c.in_ok-join_cells.ensures.more;
      few = sym c.is_crowded.ensures ∙ c.if-is_crowded.false;
    }

pub returns-then-is_crowded : goal.returns-then-is_crowded
returns-then-is_crowded c =
    let r = c.args.repeats in
    let after = c.join_cells.new.self in
    let numbers : length (number_lists after.lists.items) ≡ r.nx * r.ny * r.sites =
    omega (
      arith,
      length-map after.lists.items (λ (v : Vec SiteId Global). site_numbers v.items),
      after.lists.ok.0,
      c.in_ok-join_cells.ensures.count,
      c.loop-join.invariant.count,
    ) in
    sym (crowded-some r.nx r.ny r.sites c.args.joins.now _ (number_lists after.lists.items) numbers after.each_once
    (named-more r.nx r.ny r.sites c.args.joins.now c.loop-join.join-index _ _ (omega arith) c.loop-join.invariant.named
    c.in_ok-join_cells.ensures.more)
    (sym after.crowded ∙ sym c.is_crowded.ensures ∙ c.if-is_crowded.true))

pub returns : goal.returns
returns c =
    let r = c.args.repeats in
    let last = c.loop-join.neighbours in
    let numbers : length (number_lists last.lists.items) ≡ r.nx * r.ny * r.sites =
    omega (
      arith,
      length-map last.lists.items (λ (v : Vec SiteId Global). site_numbers v.items),
      last.lists.ok.0,
      c.loop-join.invariant.count,
    ) in
    sym c.loop-join.invariant.few ∙ last.crowded
    ∙ crowded-all r.nx r.ny r.sites c.args.joins.now c.loop-join.join-index (number_lists last.lists.items) numbers last.each_once
    c.loop-join.invariant.named (omega arith)
