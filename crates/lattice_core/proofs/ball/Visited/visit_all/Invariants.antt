use Rattle.std.proofs.Common.{◌≡◌, take, vec_len}
use Rattle.lattice_core.specs.SiteList.{site_numbers, is_listed, Adds, BeginsWith}
use Rattle.lattice_core.proofs.ball.Visited.visit_all.Given as goal

-- the sites so far were added
abbrev pub invariant-loop-site : goal.invariant-loop-site
invariant-loop-site l = record {
  count : vec_len l.self.marks ≡ vec_len l.fn.self.marks;
  adds : Adds (site_numbers l.fn.self.sites.items) (site_numbers l.self.sites.items) (is_listed (take l.site-index (site_numbers l.sites)));
  front : BeginsWith (site_numbers l.self.sites.items) (site_numbers l.fn.self.sites.items);
}
