use Rattle.std.proofs.Common.{◌≡◌, ◌-◌, ◌++◌, drop, map}
use Rattle.lattice_core.specs.SiteList.{site_numbers}
use Rattle.site_rows.proofs.listed.site_ids.Given as goal

-- the sites so far, and those that are left, are all of them
abbrev pub invariant-loop-n : goal.invariant-loop-n
invariant-loop-n l = site_numbers l.ids.items ++ map (λ n. n - 1) (drop l.n-index l.numbers) ≡ map (λ n. n - 1) l.numbers
