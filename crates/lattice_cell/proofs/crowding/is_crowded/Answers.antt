use Rattle.std.proofs.Common.{◌∙◌, All, ap, subst, sym}
use Rattle.std.specs.List.{list_any}
use Rattle.std.proofs.lemmas.List.Elements.{All-contains, All-weaker}
use Rattle.std.proofs.lemmas.Result.{IfOk-weaker}
use Rattle.lattice_cell.specs.Cells.{IsInCell}
use Rattle.lattice_cell.proofs.Crowded.{is_long}
use Rattle.lattice_cell.proofs.Joining.{neighbour_lists-same}
use Rattle.lattice_cell.proofs.crowding.is_crowded.Goals as goal

pub crowds-requires : goal.crowds-requires
crowds-requires c =
    subst (All (IsInCell c.args.sites)) (sym c.deref.ensures.value)
    (All-weaker _ _ (λ join among. All-contains (IsInCell c.args.sites) c.args.joins.now join c.requires.ends among) _ c.in_ok-joins.ensures.among)

pub returns : goal.returns
returns c =
    let same = neighbour_lists-same c.args.nx c.args.ny c.args.sites c.deref.result.now c.args.joins.now
    (λ p. ap (λ l. list_any p l) c.deref.ensures.value ∙ c.in_ok-joins.ensures.same p) in
    IfOk-weaker c.crowds.result _ _ (λ b is. is ∙ ap (list_any is_long) same) c.crowds.ensures
