use Rattle.std.proofs.Common.{◌≡◌, ◌<◌, ◌≤◌, ◌||◌, ◌∙◌, ℕ, Bool, length, get_or, take, drop, ap, sym, subst, arith, ◌-◌}
use Rattle.std.specs.List.{list_any}
use Rattle.std.proofs.lemmas.List.{length-map}
use Rattle.kmc_base.specs.declared.ids.SiteId.{SiteId}
use Rattle.lattice_core.specs.Lattice.{neighbours_of}
use Rattle.lattice_core.specs.SiteList.{site_numbers, is_listed}
use Rattle.lattice_core.proofs.Adding.{Adds-then, BeginsWith-trans, BeginsWith-length, BeginsWith-at, number_read, any_more, take_rest_all}
use Rattle.lattice_core.proofs.ball.Visited.visit_neighbours.Goals as goal
use Rattle.lattice_core.proofs.ball.Visited.visit_neighbours.Goals.{After-index-site}

-- as many numbers as sites
count-is : (c : After-index-site) → length (site_numbers c.args.self.now.sites.items) ≡ length c.args.self.now.sites.items
count-is c = length-map c.args.self.now.sites.items (λ (s : SiteId). s.0)

-- the place is within the sites of before, and so of now
early : (c : After-index-site) → c.loop-place.place < length (site_numbers c.args.self.now.sites.items)
early c = omega (arith, count-is c, c.args.self.now.sites.ok.0, c.len-place-end.ensures)

within : (c : After-index-site) → c.loop-place.place < length c.loop-place.self.sites.items
within c =
    let longer = BeginsWith-length _ _ c.loop-place.invariant.front in
    omega (arith, early c, longer, length-map c.loop-place.self.sites.items (λ (s : SiteId). s.0))

-- the site that is read
is_number : (c : After-index-site) → get_or (site_numbers c.loop-place.self.sites.items) c.loop-place.place 0 ≡ c.index-site.result.now.0
is_number c = number_read c.loop-place.self.sites.items c.loop-place.place c.index-site.result.now (within c) c.index-site.ensures

was_number : (c : After-index-site) → get_or (site_numbers c.args.self.now.sites.items) c.loop-place.place 0 ≡ c.index-site.result.now.0
was_number c = sym (BeginsWith-at _ _ c.loop-place.place c.loop-place.invariant.front (early c)) ∙ is_number c

pub neighbours-requires : goal.neighbours-requires
neighbours-requires c =
    let at = (goal.at.neighbours-requires c).After-index-site in
    let here : c.loop-place.place < length (site_numbers c.loop-place.self.sites.items) =
    omega (arith, within at, length-map c.loop-place.self.sites.items (λ (s : SiteId). s.0)) in
    let inside : c.index-site.result.now.0 < length c.loop-place.self.marks.items =
    subst (λ n. n < length c.loop-place.self.marks.items) (is_number at)
    (c.loop-place.self.inside c.loop-place.place 0 here) in
    omega (arith, inside, c.loop-place.self.marks.ok.0, c.loop-place.invariant.count, c.requires.count)

pub loop-place-preserved : goal.loop-place-preserved
loop-place-preserved c =
    let at = (goal.at.loop-place-preserved c).After-index-site in
    let place = c.loop-place.place in
    let xs = site_numbers c.args.self.now.sites.items in
    let g : ℕ → ℕ → Bool = λ s f. is_listed (neighbours_of c.args.graph.now f) s in
    record {
      count = c.in_ok-visit_all.ensures.count ∙ c.loop-place.invariant.count;
      adds = Adds-then _ _ _ (λ s. list_any (g s) (take (place - c.args.first) (drop c.args.first xs)))
          (is_listed (site_numbers c.neighbours.result.now)) _
          c.loop-place.invariant.adds c.in_ok-visit_all.ensures.adds
          (λ s. ap (λ l. list_any (g s) (take (place - c.args.first) (drop c.args.first xs)) || is_listed l s) c.neighbours.ensures.value
          ∙ any_more (g s) xs c.args.first place c.index-site.result.now.0 c.loop-place.auto.place (early at) (was_number at));
      front = BeginsWith-trans _ _ _ c.loop-place.invariant.front c.in_ok-visit_all.ensures.front;
    }

pub returns-clause-adds : goal.returns-clause-adds
returns-clause-adds c = λ s.
    let xs = site_numbers c.args.self.now.sites.items in
    let past : length xs ≤ c.loop-place.place =
    omega (
      arith,
      length-map c.args.self.now.sites.items (λ (s : SiteId). s.0),
      c.args.self.now.sites.ok.0,
      c.len-place-end.ensures,
    ) in
    c.loop-place.invariant.adds s
    ∙ ap (λ l. is_listed xs s || list_any (λ f. is_listed (neighbours_of c.args.graph.now f) s) l)
    (take_rest_all xs c.args.first c.loop-place.place past)
