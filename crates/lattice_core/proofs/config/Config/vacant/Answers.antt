use Rattle.std.proofs.Common.{◌≡◌, ◌∙◌, replicate, sym, ap, map, subst, rules}
use Rattle.lattice_core.specs.declared.state.State.TheVariants.{Vacant}
use Rattle.lattice_core.specs.Config.{class_of, IsWellFormed}
use Rattle.lattice_core.proofs.Adsorbates.{classes-vacant, vacant-well_formed}
use Rattle.lattice_core.proofs.config.Config.vacant.Goals as goal

pub invariant_of-result : goal.invariant_of-result
invariant_of-result c =
    let states : c.in_ok-states.states.items ≡ replicate c.args.sites Vacant = search rules in
    let classes : c.in_ok-classes.classes.items ≡ replicate c.args.sites 0 = search rules in
    classes ∙ classes-vacant c.args.sites ∙ sym (ap (map class_of) states)

pub returns-clause-well_formed : goal.returns-clause-well_formed
returns-clause-well_formed c = λ dentates.
    let states : c.in_ok-states.states.items ≡ replicate c.args.sites Vacant = search rules in
    subst (IsWellFormed dentates) (sym states) (vacant-well_formed dentates c.args.sites)
