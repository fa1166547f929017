use Rattle.std.proofs.Common.{◌<◌, ◌∙◌, vec_len, arith, eqb, take, ◌+◌}
use Rattle.lattice_core.specs.SiteList.{site_numbers, is_listed}
use Rattle.lattice_core.proofs.Adding.{Adds-then, is_listed-more, BeginsWith-trans}
use Rattle.lattice_core.proofs.Finding.{All-number, number_of, number_of-is}
use Rattle.lattice_core.proofs.ball.Visited.visit_all.Goals as goal

pub visit-requires : goal.visit-requires
visit-requires c =
    let h = All-number (λ s. s < vec_len c.args.self.now.marks) c.args.sites.now c.loop-site.site-index (omega arith) c.requires in
    omega (arith, h, c.loop-site.invariant.count)

pub loop-site-preserved : goal.loop-site-preserved
loop-site-preserved c =
    let i = c.loop-site.site-index in
    let ns = site_numbers c.args.sites.now in
    let is = number_of-is c.args.sites.now i (omega arith) in
    record {
      count = c.in_ok-visit.ensures.count ∙ c.loop-site.invariant.count;
      adds = Adds-then _ _ _ (is_listed (take i ns)) (eqb (number_of c.args.sites.now i)) (is_listed (take (i + 1) ns))
          c.loop-site.invariant.adds c.in_ok-visit.ensures.adds (λ s. is_listed-more ns i _ s is.0 is.1);
      front = BeginsWith-trans _ _ _ c.loop-site.invariant.front c.in_ok-visit.ensures.front;
    }
