use Rattle.std.proofs.Common.{◌≡◌, ◌-◌, length, take}
use Rattle.firing.specs.Sides.{states_for}
use Rattle.lattice_core.specs.SiteList.{site_numbers}
use Rattle.firing.proofs.given.given_states.Given as goal

-- the pairs of the vertices so far
abbrev pub invariant-loop-vertex : goal.invariant-loop-vertex
invariant-loop-vertex l = record {
  count : length l.pairs ≡ 8;
  states : take (l.vertex - 1) l.pairs ≡ take (l.vertex - 1) (states_for l.side (site_numbers l.sites));
}
