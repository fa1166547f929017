use Rattle.std.proofs.Common.{◌<◌, eqb, length, ◌∙◌, ap, sym, arith}
use Rattle.lattice_core.specs.SiteList.{site_numbers, is_listed}
use Rattle.lattice_core.proofs.Numbers.{list_any-numbers, list_of-numbers}
use Rattle.lattice_cell.proofs.neighbours.Neighbours.has.Goals as goal

pub returns : goal.returns
returns c =
    let lists = c.args.self.now.lists in
    let within : c.args.s < length lists.items = omega (arith, lists.ok.0) in
    let is = list_of-numbers lists.items c.args.s c.index.result.now within c.index.ensures ∙ ap site_numbers (sym c.deref.ensures.value) in
    c.contains.ensures.value ∙ list_any-numbers (λ u. eqb u c.args.t) c.deref.result.now ∙ ap (λ l. is_listed l c.args.t) (sym is)
