use Rattle.std.proofs.Common.{◌≡◌, ◌≤◌, ◌-◌, ℕ, vec_len}
use Rattle.lattice_core.specs.Ball.{is_reached}
use Rattle.lattice_core.specs.SiteList.{site_numbers, is_listed}
use Rattle.lattice_core.proofs.Walks.{IsClosed}
use Rattle.lattice_core.proofs.ball.Visited.visit_within.Given as goal

-- what so many steps reach was visited, and the neighbours of the sites before the first of the last step too
abbrev pub invariant-loop-steps : goal.invariant-loop-steps
invariant-loop-steps l = record {
  not_past : l.steps ≤ l.radius;
  count : vec_len l.self.marks ≡ vec_len l.fn.self.marks;
  reached : (s : ℕ) → is_listed (site_numbers l.self.sites.items) s ≡ is_reached l.graph (site_numbers l.fn.self.sites.items) l.steps s;
  closed : IsClosed l.graph (site_numbers l.self.sites.items) l.first;
}

abbrev pub decreases-loop-steps : goal.decreases-loop-steps
decreases-loop-steps l = l.radius - l.steps
