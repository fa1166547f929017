use Rattle.std.proofs.Common.{◌∙◌}
use Rattle.site_rows.proofs.NumberLists.{listed_from_search}
use Rattle.site_rows.proofs.faults.has_number.Goals as goal

pub returns : goal.returns
returns c rising = c.is_ok.ensures.value ∙ listed_from_search _ _ _ rising c.binary_search.ensures.bound c.binary_search.ensures.position
