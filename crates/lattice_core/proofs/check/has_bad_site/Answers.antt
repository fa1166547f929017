use Rattle.std.proofs.Common.{nat_le, rules, tests, ◌∙◌}
use Rattle.std.proofs.lemmas.Iterator.{YieldsList-from_slice}
use Rattle.std.proofs.lemmas.Iterator.Search.{any_from_yields_List}
use Rattle.kmc_base.specs.declared.ids.SiteId.{SiteId}
use Rattle.lattice_core.proofs.Numbers.{list_any-numbers}
use Rattle.lattice_core.proofs.check.has_bad_site.Goals as goal

pub returns : goal.returns
returns c =
    any_from_yields_List (λ (u : SiteId). nat_le c.args.count u.0) _ _ _ c.any.ensures.ran
    (YieldsList-from_slice c.args.list.now cc) (λ x b q k. search (rules, tests))
    ∙ list_any-numbers (λ u. nat_le c.args.count u) c.args.list.now
