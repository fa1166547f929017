use Rattle.std.proofs.Common.{◌∙◌}
use Rattle.lattice_core.proofs.Searching.{position-from_search}
use Rattle.lattice_core.proofs.site_list.find_site.Goals as goal

pub returns : goal.returns
returns c = c.ok.ensures.value ∙ position-from_search _ _ _ c.requires.rising c.binary_search.ensures.bound c.binary_search.ensures.position
