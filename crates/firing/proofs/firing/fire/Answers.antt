use Rattle.std.proofs.Common.{◌∙◌, ap, subst, sym}
use Rattle.firing.specs.Firing.{CanSet, set_side}
use Rattle.firing.proofs.Laws.{can_set, clears_then_sets, keeps_well_formed}
use Rattle.lattice_core.specs.Config.{IsWellFormed}
use Rattle.lattice_core.specs.SiteList.{site_numbers}
use Rattle.firing.proofs.firing.fire.Goals as goal

pub set_side-requires : goal.set_side-requires
set_side-requires c =
    let sites = site_numbers c.args.sites.now in
    subst (CanSet c.args.after.now sites) (sym c.clear_side.ensures)
    (can_set c.args.before.now c.args.after.now sites c.args.config.now c.requires)

pub returns-clause-states : goal.returns-clause-states
returns-clause-states c =
    let sites = site_numbers c.args.sites.now in
    c.set_side.ensures.entities
    ∙ ap (set_side c.args.after.now sites) c.clear_side.ensures
    ∙ sym (clears_then_sets c.args.before.now c.args.after.now sites c.args.config.now c.requires)

pub returns-clause-well_formed : goal.returns-clause-well_formed
returns-clause-well_formed c = λ dentates has well_formed.
    let sites = site_numbers c.args.sites.now in
    let states = c.set_side.ensures.entities
    ∙ ap (set_side c.args.after.now sites) c.clear_side.ensures
    ∙ sym (clears_then_sets c.args.before.now c.args.after.now sites c.args.config.now c.requires) in
    subst (IsWellFormed dentates) (sym states)
    (keeps_well_formed c.args.before.now c.args.after.now sites c.args.config.now c.requires dentates has well_formed)
