use Rattle.std.proofs.Common.{◌≡◌, ◌<◌, ◌∙◌, ℕ, ◌||◌, length, All, ap, sym, arith, subst, vec_len}
use Rattle.std.proofs.lemmas.List.Elements.{All-map}
use Rattle.kmc_base.specs.declared.ids.SiteId.{SiteId}
use Rattle.lattice_core.specs.Ball.{is_reached}
use Rattle.lattice_core.specs.Lattice.{site_count}
use Rattle.lattice_core.specs.SiteList.{site_numbers, is_listed}
use Rattle.lattice_core.proofs.Balls.{ball-is, is_reached-same}
use Rattle.lattice_core.proofs.Members.{Contains-from_listed, listed-from_Contains}
use Rattle.lattice_core.proofs.Walks.{near_reached, reached_near}
use Rattle.lattice_core.proofs.graph.Graph.ball.Goals as goal
use Rattle.lattice_core.proofs.graph.Graph.ball.Goals.{After-sort_sites}

pub visit_all-requires : goal.visit_all-requires
visit_all-requires c =
    let e : site_count c.args.self.now ≡ vec_len c.in_ok-visited.visited.marks = sym (c.in_ok-visited.ensures.count ∙ c.len.ensures.count) in
    subst (λ n. All (λ s. s < n) (site_numbers c.args.centres.now)) e
    (All-map (λ s. s < site_count c.args.self.now) (λ (s : SiteId). s.0) c.args.centres.now c.requires)

-- the search began at the centres
starts : (c : After-sort_sites) (s : ℕ) → is_listed (site_numbers c.visit_all.new.self.sites.items) s ≡ is_listed (site_numbers c.args.centres.now) s
starts c s = c.in_ok-visit_all.ensures.adds s
    ∙ ap (λ l. is_listed (site_numbers l) s || is_listed (site_numbers c.args.centres.now) s)
    c.in_ok-visited.ensures.none

-- and found what is reached
found : (c : After-sort_sites) (s : ℕ)
    → is_listed (site_numbers c.visit_within.new.self.sites.items) s
    ≡ is_reached c.args.self.now (site_numbers c.args.centres.now) c.args.radius s
found c s = c.in_ok-visit_within.ensures.reached s ∙ is_reached-same c.args.self.now _ _ c.args.radius (starts c) s

pub returns-clause-ball : goal.returns-clause-ball
returns-clause-ball c =
    let at = (goal.at.returns-clause-ball c).After-sort_sites in
    let xs = site_numbers c.visit_within.new.self.sites.items in
    let e : length c.visit_within.new.self.marks.items ≡ site_count c.args.self.now =
    omega (
      arith,
      c.visit_within.new.self.marks.ok.0,
      c.in_ok-visit_within.ensures.count,
      c.in_ok-visit_all.ensures.count,
      c.in_ok-visited.ensures.count,
      c.len.ensures.count,
    ) in
    let below = subst (λ n. All (λ s. s < n) xs) e c.visit_within.new.self.inside in
    ball-is c.args.self.now (site_numbers c.args.centres.now) c.args.radius xs _ below c.sort_sites.ensures.rising
    c.sort_sites.ensures.same (found at)

pub returns-clause-near : goal.returns-clause-near
returns-clause-near c = λ s.
    let at = (goal.at.returns-clause-near c).After-sort_sites in
    let g = c.args.self.now in
    let centres = site_numbers c.args.centres.now in
    let sorted = site_numbers c.sort_sites.new.sites.items in
    let same = c.sort_sites.ensures.same s ∙ found at s in (
      λ h. near_reached g centres c.args.radius s (sym same ∙ listed-from_Contains sorted s h),
      λ h. Contains-from_listed sorted s (same ∙ reached_near g centres c.args.radius s h),
    )
