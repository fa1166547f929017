use Rattle.std.proofs.Common.{◌≡◌, ◌-◌, ◌++◌, [], replicate}
use Rattle.lattice_core.specs.SiteList.{number_lists}
use Rattle.site_rows.proofs.listed.empty_lists.Given as goal

-- the lists so far, and those that are left, are all of them
abbrev pub invariant-loop-site : goal.invariant-loop-site
invariant-loop-site l = number_lists l.lists.items ++ replicate (l.sites - l._site) [] ≡ replicate l.sites []
