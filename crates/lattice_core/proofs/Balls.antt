-- A rising list of what is reached is the ball.
use Rattle.std.proofs.Common.{◌≡◌, ℕ, ◌<◌, true, ◌&&◌, ltb, List, All, sym, ◌∙◌, ap, get_or, ◌+◌, arith, [], ◌∷◌, refl}
use Rattle.std.specs.List.Sorted.{IsStrictlyIncreasing}
use Rattle.std.proofs.lemmas.List.Elements.{All-filter}
use Rattle.std.proofs.lemmas.List.Kept.{IsStrictlyIncreasing-filter}
use Rattle.lattice_core.specs.Ball.{ball, is_reached}
use Rattle.lattice_core.specs.Lattice.{Lattice, site_count, all_sites}
use Rattle.lattice_core.specs.SiteList.{is_listed}
use Rattle.lattice_core.proofs.Members.{same_answers}
use Rattle.lattice_core.proofs.Merging.{rising_is_filter, listed-below, range-rising, range-below}
use Rattle.lattice_core.proofs.Walks.{Reached-from_test, test-from_Reached, reached_start}
use Rattle.lattice_core.proofs.Rising.{is_listed-filter, is_listed-range}
use Rattle.std.proofs.lemmas.Bool.{and_from, eq-eqb, le-leb, lt-ltb, or_left}

pub ball-is : (lattice : Lattice) (centres : List ℕ) (radius : ℕ) (xs sorted : List ℕ)
    → All (λ s. s < site_count lattice) xs → IsStrictlyIncreasing sorted
    → ((s : ℕ) → is_listed sorted s ≡ is_listed xs s)
    → ((s : ℕ) → is_listed xs s ≡ is_reached lattice centres radius s) → sorted ≡ ball lattice centres radius
unfolding ball
ball-is lattice centres radius xs sorted below rising same found =
    let n = site_count lattice in
    rising_is_filter (is_reached lattice centres radius) n sorted rising (λ s. same s ∙ listed-below n xs s below ∙ ap (λ b. ltb s n && b) (found s))

-- what is reached from the same starts is the same
reached-from : (lattice : Lattice) (start centres : List ℕ) (k : ℕ)
    → ((s : ℕ) → is_listed start s ≡ is_listed centres s) → (s : ℕ) → is_reached lattice start k s ≡ true
    → is_reached lattice centres k s ≡ true
reached-from lattice start centres k same s h =
    let r = Reached-from_test lattice start k s h in
    test-from_Reached lattice centres k s
    (record {
      from = r.from;
      steps = r.steps;
      starts = sym (same r.from)
          ∙ r.starts;
      within = r.within;
      walk = r.walk;
    })

pub is_reached-same : (lattice : Lattice) (start centres : List ℕ) (k : ℕ)
    → ((s : ℕ) → is_listed start s ≡ is_listed centres s) → (s : ℕ)
    → is_reached lattice start k s ≡ is_reached lattice centres k s
is_reached-same lattice start centres k same s =
    same_answers _ _ (reached-from lattice start centres k same s) (reached-from lattice centres start k (λ t. sym (same t)) s)

-- the ball rises, and its sites are sites of the lattice
pub ball-rising : (lattice : Lattice) (centres : List ℕ) (radius : ℕ) → IsStrictlyIncreasing (ball lattice centres radius)
unfolding ball
ball-rising lattice centres radius = IsStrictlyIncreasing-filter (is_reached lattice centres radius) _ (range-rising 0 (site_count lattice))

pub ball-below : (lattice : Lattice) (centres : List ℕ) (radius : ℕ) → All (λ s. s < site_count lattice) (ball lattice centres radius)
unfolding ball
ball-below lattice centres radius =
    All-filter (is_reached lattice centres radius) (λ s. s < site_count lattice) (all_sites lattice)
    (λ k d within. let low : get_or (all_sites lattice) k d < 0 + site_count lattice = range-below 0 (site_count lattice) k d within in omega arith)

-- what no step reaches more steps do
more_steps : (lattice : Lattice) (start : List ℕ) (k s : ℕ) → is_reached lattice start 0 s ≡ true → is_reached lattice start k s ≡ true
more_steps lattice start k s h =
    let r = Reached-from_test lattice start 0 s h in
    test-from_Reached lattice start k s
    (record {
      from = r.from;
      steps = r.steps;
      starts = r.starts;
      within = omega (arith, r.within);
      walk = r.walk;
    })

-- a centre is in its ball
pub ball-anchor : (lattice : Lattice) (a radius : ℕ) → a < site_count lattice → is_listed (ball lattice (a ∷ []) radius) a ≡ true
unfolding ball
ball-anchor lattice a radius inside =
    let start = reached_start lattice (a ∷ []) a in
    let near : is_reached lattice (a ∷ []) radius a ≡ true = more_steps lattice (a ∷ []) radius a (sym start ∙ or_left _ _ (eq-eqb a a refl)) in
    is_listed-filter (is_reached lattice (a ∷ []) radius) (all_sites lattice) a
    ∙ and_from _ _ (is_listed-range 0 (site_count lattice) a
    ∙ and_from _ _ (le-leb 0 a (omega arith)) (lt-ltb a (0 + site_count lattice) (omega arith))) near
