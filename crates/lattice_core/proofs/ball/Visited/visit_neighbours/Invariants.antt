use Rattle.std.proofs.Common.{◌≡◌, ◌-◌, take, drop, vec_len}
use Rattle.std.specs.List.{list_any}
use Rattle.lattice_core.specs.Lattice.{neighbours_of}
use Rattle.lattice_core.specs.SiteList.{site_numbers, is_listed, Adds, BeginsWith}
use Rattle.lattice_core.proofs.ball.Visited.visit_neighbours.Given as goal

-- the neighbours of the sites so far were added
abbrev pub invariant-loop-place : goal.invariant-loop-place
invariant-loop-place l = record {
  count : vec_len l.self.marks ≡ vec_len l.fn.self.marks;
  adds : Adds (site_numbers l.fn.self.sites.items) (site_numbers l.self.sites.items)
      (λ s. list_any (λ f. is_listed (neighbours_of l.graph f) s) (take (l.place - l.first) (drop l.first (site_numbers l.fn.self.sites.items))));
  front : BeginsWith (site_numbers l.self.sites.items) (site_numbers l.fn.self.sites.items);
}
