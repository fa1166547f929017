use Rattle.std.proofs.Common.{◌≡◌, ◌-◌}
use Rattle.firing.proofs.EachEntity.{clear_entity, done_until}
use Rattle.lattice_core.specs.SiteList.{site_numbers}
use Rattle.firing.proofs.firing.clear_side.Given as goal

-- the entities that the vertices so far begin are off
abbrev pub invariant-loop-vertex : goal.invariant-loop-vertex
invariant-loop-vertex l = l.config ≡ done_until (clear_entity l.side (site_numbers l.sites)) l.side.wanted (l.vertex - 1) l.fn.config
