use Rattle.std.proofs.Common.{◌≡◌, ◌+◌, map, take}
use Rattle.lattice_core.specs.Config.{state_at}
use Rattle.lattice_core.specs.SiteList.{site_numbers}
use Rattle.lattice_core.proofs.window.read_states.Given as goal

-- the states so far were read
abbrev pub invariant-loop-site : goal.invariant-loop-site
invariant-loop-site g l =
    (l.states.items ≡ map (state_at l.config) (take l.site-index (site_numbers l.sites))) × (l.steps ≡ l.fn.steps + l.site-index)
