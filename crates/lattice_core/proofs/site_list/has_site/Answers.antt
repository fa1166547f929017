use Rattle.std.proofs.Common.{◌∙◌}
use Rattle.lattice_core.proofs.Searching.{is_listed-from_search}
use Rattle.lattice_core.proofs.site_list.has_site.Goals as goal

pub returns : goal.returns
returns c = c.is_ok.ensures.value ∙ is_listed-from_search _ _ _ c.requires.rising c.binary_search.ensures.bound c.binary_search.ensures.position
