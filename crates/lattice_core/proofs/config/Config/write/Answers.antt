use Rattle.std.proofs.Common.{◌∙◌, sym, ap, map, set}
use Rattle.std.proofs.lemmas.List.{map-set}
use Rattle.lattice_core.specs.Config.{class_of}
use Rattle.lattice_core.proofs.config.Config.write.Goals as goal

pub invariant_of-self : goal.invariant_of-self
invariant_of-self c =
    ap (λ l. set l c.args.site.0 c.class_of.result) c.self.invariant
    ∙ ap (set (map class_of c.self.inside.states.items) c.args.site.0) c.class_of.ensures
    ∙ sym (map-set class_of c.self.inside.states.items c.args.site.0 c.args.state)
