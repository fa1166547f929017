use Rattle.std.proofs.Common.{◌≡◌, length, drop}
use Rattle.std.specs.List.{range_with_len}
use Rattle.lattice_core.specs.Fault.{fault_among, first_fault}
use Rattle.lattice_core.specs.SiteList.{number_lists}
use Rattle.lattice_core.proofs.check.first_fault.Given as goal

-- the sites that are left have the first fault
abbrev pub invariant-loop-site : goal.invariant-loop-site
invariant-loop-site l =
    fault_among (number_lists l.lists) (drop l.site (range_with_len 0 (length (number_lists l.lists)))) ≡ first_fault (number_lists l.lists)
