use Rattle.std.proofs.Common.{◌≡◌, not, find, drop}
use Rattle.lattice_core.specs.SiteList.{site_numbers, number_lists, is_listed, list_of}
use Rattle.lattice_core.proofs.check.one_sided.Given as goal

-- the rest of the list has the answer
abbrev pub invariant-loop-other : goal.invariant-loop-other
invariant-loop-other l =
    find (λ t. not (is_listed (list_of (number_lists l.lists) t) l.site.0)) (drop l.other-index (site_numbers l.list))
    ≡ find (λ t. not (is_listed (list_of (number_lists l.lists) t) l.site.0)) (site_numbers l.list)
