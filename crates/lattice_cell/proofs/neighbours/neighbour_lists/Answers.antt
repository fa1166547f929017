use Rattle.std.proofs.Common.{◌∙◌, ap, subst, sym, All}
use Rattle.std.specs.List.{list_any}
use Rattle.std.proofs.lemmas.List.Elements.{All-contains, All-weaker}
use Rattle.std.proofs.lemmas.Result.{IfOk-weaker}
use Rattle.lattice_core.specs.SiteList.{number_lists, AreMerged}
use Rattle.lattice_cell.specs.Cells.{IsInCell}
use Rattle.lattice_cell.proofs.Joining.{neighbour_lists-same}
use Rattle.lattice_cell.proofs.neighbours.neighbour_lists.Goals as goal

pub joined_lists-requires : goal.joined_lists-requires
joined_lists-requires c =
    subst (All (IsInCell c.args.repeats.sites)) (sym c.deref.ensures.value)
    (All-weaker _ _ (λ join among. All-contains (IsInCell c.args.repeats.sites) c.args.joins.now join c.requires among) _ c.in_ok-joins.ensures.among)

pub returns-clause-lists : goal.returns-clause-lists
returns-clause-lists c =
    let r = c.args.repeats in
    let kept = c.in_ok-joins.joins.items in
    let same = neighbour_lists-same r.nx r.ny r.sites c.deref.result.now c.args.joins.now
    (λ p. ap (λ l. list_any p l) c.deref.ensures.value ∙ c.in_ok-joins.ensures.same p) in
    IfOk-weaker c.joined_lists.result _ _ (λ lists are. subst (AreMerged (number_lists lists.items)) same are) c.joined_lists.ensures.lists
