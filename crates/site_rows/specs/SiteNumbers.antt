-- The numbers of sites.
use Rattle.std.specs.Prelude.{ℕ, ◌==◌, ◌||◌, Bool, false, Option, None, Some, nat_lt}

-- a number is that of no site, where the number of sites is known; sites are numbered from 1 here
abbrev pub is_no_site : Option ℕ → ℕ → Bool
is_no_site None n = false
is_no_site (Some sites) n = n == 0 || nat_lt sites n
