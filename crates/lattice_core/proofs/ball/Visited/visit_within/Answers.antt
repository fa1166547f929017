use Rattle.std.proofs.Common.{◌≡◌, ◌≤◌, ◌∙◌, length, arith, refl, subst}
use Rattle.std.proofs.lemmas.List.{length-map}
use Rattle.kmc_base.specs.declared.ids.SiteId.{SiteId}
use Rattle.lattice_core.specs.SiteList.{site_numbers}
use Rattle.lattice_core.proofs.Walks.{reached_start, reached_more, closed_more, reached_all, IsClosed}
use Rattle.lattice_core.proofs.ball.Visited.visit_within.Goals as goal

pub loop-steps-init : goal.loop-steps-init
loop-steps-init c = record {
  not_past = omega arith;
  count = refl;
  reached = reached_start c.args.graph.now (site_numbers c.args.self.now.sites.items);
  closed = λ i t low within h. absurd (omega arith);
}

pub loop-steps-preserved : goal.loop-steps-preserved
loop-steps-preserved c =
    let g = c.args.graph.now in
    let start = site_numbers c.args.self.now.sites.items in
    let xs = site_numbers c.loop-steps.self.sites.items in
    let ys = site_numbers c.visit_neighbours.new.self.sites.items in
    let known = c.loop-steps.invariant in
    let did = c.in_ok-visit_neighbours.ensures in
    let next : length xs ≡ c.len-next.result =
    omega (
      arith,
      length-map c.loop-steps.self.sites.items (λ (s : SiteId). s.0),
      c.loop-steps.self.sites.ok.0,
      c.len-next.ensures,
    ) in
    record {
      not_past = omega arith;
      count = did.count ∙ known.count;
      reached = reached_more g c.requires.lattice start xs c.loop-steps.steps c.loop-steps.first known.reached known.closed ys did.adds;
      closed = subst (IsClosed g ys) next
          (closed_more g c.requires.lattice start xs c.loop-steps.steps c.loop-steps.first known.reached known.closed
          ys did.front did.adds);
    }

pub returns-else-first-len-clause-reached : goal.returns-else-first-len-clause-reached
returns-else-first-len-clause-reached c =
    let xs = site_numbers c.loop-steps.self.sites.items in
    let all : length xs ≤ c.loop-steps.first =
    omega (
      arith,
      length-map c.loop-steps.self.sites.items (λ (s : SiteId). s.0),
      c.loop-steps.self.sites.ok.0,
      c.len.ensures,
    ) in
    reached_all c.args.graph.now c.requires.lattice (site_numbers c.args.self.now.sites.items) xs c.loop-steps.steps
    c.loop-steps.first c.loop-steps.invariant.reached c.loop-steps.invariant.closed c.args.radius (omega arith)
    all
