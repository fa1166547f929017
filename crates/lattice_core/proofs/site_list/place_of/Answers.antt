use Rattle.std.proofs.Common.{◌==◌, rules, tests, ◌∙◌}
use Rattle.std.proofs.lemmas.Iterator.{YieldsList-from_slice}
use Rattle.std.proofs.lemmas.Iterator.Search.{position_from_yields_List}
use Rattle.kmc_base.specs.declared.ids.SiteId.{SiteId}
use Rattle.lattice_core.proofs.Numbers.{position-numbers}
use Rattle.lattice_core.proofs.site_list.place_of.Goals as goal

pub returns : goal.returns
returns c =
    position_from_yields_List (λ (u : SiteId). u.0 == c.args.site.0) _ _ _ c.position.ensures.ran
    (YieldsList-from_slice c.args.sites.now cc) (λ x b q k. search (rules, tests))
    ∙ position-numbers (λ u. u == c.args.site.0) c.args.sites.now
