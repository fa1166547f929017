-- What a join can join to a site: never the site itself, and no more than one site in each of two cells.
use Rattle.std.proofs.Common.{◌≡◌, ◌∙◌, sym, ap, subst, ℕ, ◌+◌, ◌*◌, ◌/◌, ◌<◌, ◌≤◌, ◌||◌, All, Bool, true, false, eqb, leb, ltb, filter}
use Rattle.std.proofs.Common.{List, [], ◌∷◌, inl, inr, length, nat_cmp, refl, arith}
use Rattle.std.specs.List.{AllByRecursion, list_any, range_with_len}
use Rattle.std.specs.Ordering.{eq_by_cmp}
use Rattle.std.specs.Set.{is_member}
use Rattle.std.proofs.lemmas.Bool.{and_from, and_parts, both_ways, eq-eqb, eqb-true, false_from_ne_true, false≢true, ltb-true, or_cases, or_left}
use Rattle.std.proofs.lemmas.Bool.{or_right}
use Rattle.std.proofs.lemmas.Bool.Decides.{nat_tests}
use Rattle.std.proofs.lemmas.Cmp.{eq_by_cmp_equiv, nat_cmp_total}
use Rattle.std.proofs.lemmas.List.{get_or_default}
use Rattle.std.proofs.lemmas.List.Elements.{All-contains, recursion_from_All}
use Rattle.std.proofs.lemmas.List.Folds.{Any-from_list_any, list_any-from_Any}
use Rattle.std.proofs.lemmas.List.Kept.{IsStrictlyIncreasing-filter}
use Rattle.std.proofs.lemmas.Map.Keys.{IsDistinct-from_sorted, sorted_from_strictly_increasing}
use Rattle.std.proofs.lemmas.Map.Made.{length-le_from_is_member}
use Rattle.lattice_core.specs.SiteList.{is_listed}
use Rattle.lattice_core.specs.declared.graph.TheConstants.{MAX_NEIGHBOURS}
use Rattle.lattice_core.proofs.Members.{listed-from_any}
use Rattle.lattice_core.proofs.Merging.{range-rising}
use Rattle.lattice_core.proofs.Rising.{is_listed-filter, is_listed-range}
use Rattle.lattice_cell.specs.Cells.{IsInCell, displaced, site_at}
use Rattle.lattice_cell.specs.Faultless.{is_crowded, joins_itself}
use Rattle.lattice_cell.specs.Periodic.{are_joined, joins_at, joins_sites, neighbour_lists}
use Rattle.lattice_cell.specs.declared.cell.Join.{Join}
use Rattle.lattice_cell.proofs.CellNumbers.{first_factor, second_factor}
use Rattle.lattice_cell.proofs.Crowded.{is_long}
use Rattle.lattice_cell.proofs.Merged.{length-neighbour_lists, list_of-neighbour_lists}
use Rattle.lattice_cell.proofs.Steps.{back_to_first, cell_before, first_part, led_from, second_part}

-- a list names what it has as a member
same_number : (q x : ℕ) → eq_by_cmp nat_cmp q x ≡ eqb x q
same_number q x = grind (arith, nat_tests)

member_listed : (xs : List ℕ) (q : ℕ) → is_member (eq_by_cmp nat_cmp) xs q ≡ is_listed xs q
member_listed [] q = refl
member_listed (x ∷ xs) q = ap (λ b. b || is_member (eq_by_cmp nat_cmp) xs q) (same_number q x) ∙ ap (λ b. eqb x q || b) (member_listed xs q)

module _ (nx ny sites : ℕ) where
  -- a join joins two sites for this cell
  record JoinsFor (join : Join) (s t : ℕ) : Type 0 where
    cell : ℕ
    within : cell < nx * ny
    first : site_at sites cell join.from ≡ s
    second : site_at sites (displaced nx ny join.toward cell) join.to ≡ t

  some_cell : (join : Join) (s t : ℕ) → joins_sites nx ny sites join s t ≡ true → JoinsFor join s t
  unfolding joins_sites
  some_cell join s t joined =
      let found = listed-from_any (joins_at nx ny sites join s t) (range_with_len 0 (nx * ny)) joined in
      let inside = and_parts (leb 0 found.0) (ltb found.0 (0 + nx * ny)) (sym (is_listed-range 0 (nx * ny) found.0) ∙ found.1) in
      let low : found.0 < 0 + nx * ny = ltb-true found.0 (0 + nx * ny) inside.1 in
      let parts = and_parts (eqb (site_at sites found.0 join.from) s) (eqb (site_at sites (displaced nx ny join.toward found.0) join.to) t)
      found.2 in
      record {
        cell = found.0;
        within = omega (arith, low);
        first = eqb-true (site_at sites found.0 join.from) s parts.0;
        second = eqb-true (site_at sites (displaced nx ny join.toward found.0) join.to) t parts.1;
      }

  -- a join that joins some site to itself joins a site of the cell to itself, and leads back
  itself : (join : Join) → IsInCell sites join → (s : ℕ) → joins_sites nx ny sites join s s ≡ true → joins_itself nx ny join ≡ true
  itself join ends s joined =
      let for = some_cell join s s joined in
      let columns : 1 ≤ nx = first_factor nx ny (let low = for.within in omega (arith, low)) in
      let rows : 1 ≤ ny = second_factor nx ny (let low = for.within in omega (arith, low)) in
      let d = displaced nx ny join.toward for.cell in
      let back : d ≡ for.cell = sym (first_part d join.to s sites ends.1 for.second) ∙ first_part for.cell join.from s sites ends.0 for.first in
      let same : join.from ≡ join.to =
      sym (second_part for.cell join.from s sites ends.0 for.first) ∙ second_part d join.to s sites ends.1 for.second in
      and_from (eqb join.from join.to) (eqb (displaced nx ny join.toward 0) 0) (eq-eqb join.from join.to same)
      (eq-eqb (displaced nx ny join.toward 0) 0 (back_to_first nx ny columns rows join.toward for.cell for.within back))

  -- where no join does so no site is joined to itself
  pub not_itself : (joins : List Join) → All (IsInCell sites) joins → list_any (joins_itself nx ny) joins ≡ false
      → (s : ℕ) → are_joined nx ny sites joins s s ≡ false
  unfolding are_joined
  not_itself joins ends none s =
      let own : Join → Bool = λ join. joins_sites nx ny sites join s s || joins_sites nx ny sites join s s in
      false_from_ne_true (list_any own joins) (λ joined.
      let found = Any-from_list_any own joins joined in
      let inside = All-contains (IsInCell sites) joins found.1 ends (found.0, found.2, found.3) in
      let once : joins_sites nx ny sites found.1 s s ≡ true =
      elim (or_cases (joins_sites nx ny sites found.1 s s) (joins_sites nx ny sites found.1 s s) found.4) [ inl e ↦ e | inr e ↦ e ] in
      both_ways (list_any (joins_itself nx ny) joins) none
      (list_any-from_Any (joins_itself nx ny) joins (found.0, found.1, found.2, found.3, itself found.1 inside s once)))

  -- the two sites that each join can join to a site: in the cell to which it leads and in that from which it leads here
  next_sites : List Join → ℕ → List ℕ
  next_sites [] s = []
  next_sites (join ∷ joins) s =
      site_at sites (displaced nx ny join.toward (s / sites)) join.to
      ∷ site_at sites (cell_before nx ny join.toward (s / sites)) join.from
      ∷ next_sites joins s

  count_next : (joins : List Join) (s : ℕ) → length (next_sites joins s) ≡ 2 * length joins
  unfolding next_sites
  count_next [] s = refl
  count_next (join ∷ joins) s = let rest = count_next joins s in omega (arith, rest)

  led_to : (join : Join) → IsInCell sites join → (s t : ℕ) → joins_sites nx ny sites join s t ≡ true
      → site_at sites (displaced nx ny join.toward (s / sites)) join.to ≡ t
  led_to join ends s t joined =
      let for = some_cell join s t joined in
      ap (λ c. site_at sites (displaced nx ny join.toward c) join.to) (first_part for.cell join.from s sites ends.0 for.first) ∙ for.second

  led_here : (join : Join) → IsInCell sites join → (s t : ℕ) → joins_sites nx ny sites join t s ≡ true
      → site_at sites (cell_before nx ny join.toward (s / sites)) join.from ≡ t
  led_here join ends s t joined =
      let for = some_cell join t s joined in
      let columns : 1 ≤ nx = first_factor nx ny (let low = for.within in omega (arith, low)) in
      let rows : 1 ≤ ny = second_factor nx ny (let low = for.within in omega (arith, low)) in
      let d = displaced nx ny join.toward for.cell in
      let leads : d ≡ s / sites = sym (first_part d join.to s sites ends.1 for.second) in
      let before = led_from nx ny columns rows join.toward for.cell (s / sites) for.within leads in
      ap (λ c. site_at sites c join.from) (sym before) ∙ for.first

  is_next : (joins : List Join) → AllByRecursion (IsInCell sites) joins → (s t : ℕ) → are_joined nx ny sites joins s t ≡ true
      → is_listed (next_sites joins s) t ≡ true
  unfolding are_joined next_sites
  is_next [] ends s t joined = absurd (false≢true joined)
  is_next (join ∷ joins) ends s t joined =
      elim (or_cases (joins_sites nx ny sites join s t || joins_sites nx ny sites join t s)
      (list_any (λ j. joins_sites nx ny sites j s t || joins_sites nx ny sites j t s) joins) joined) [
        | inl here ↦ elim (or_cases (joins_sites nx ny sites join s t) (joins_sites nx ny sites join t s) here) [
          | inl there ↦ or_left _ _ (eq-eqb _ t (led_to join ends.0 s t there))
          | inr back ↦ or_right _ _ (or_left _ _ (eq-eqb _ t (led_here join ends.0 s t back)))
        ]
        | inr later ↦ or_right _ _ (or_right _ _ (is_next joins ends.1 s t later))
      ]

  -- so no site has more than two neighbours for each join
  few_next : (joins : List Join) → All (IsInCell sites) joins → (s n : ℕ)
      → length (filter (are_joined nx ny sites joins s) (range_with_len 0 n)) ≤ 2 * length joins
  few_next joins ends s n =
      let kept = filter (are_joined nx ny sites joins s) (range_with_len 0 n) in
      let rising = IsStrictlyIncreasing-filter (are_joined nx ny sites joins s) (range_with_len 0 n) (range-rising 0 n) in
      let few = length-le_from_is_member (eq_by_cmp_equiv nat_cmp_total) kept (next_sites joins s)
      (IsDistinct-from_sorted nat_cmp kept (sorted_from_strictly_increasing kept rising))
      (λ q member.
      let listed = sym (is_listed-filter (are_joined nx ny sites joins s) (range_with_len 0 n) q) ∙ sym (member_listed kept q) ∙ member in
      let joined = (and_parts (is_listed (range_with_len 0 n) q) (are_joined nx ny sites joins s q) listed).1 in
      member_listed (next_sites joins s) q
      ∙ is_next joins (recursion_from_All (IsInCell sites) joins ends) s q joined) in
      let count = count_next joins s in
      omega (arith, few, count)

  -- and few joins crowd no site
  pub few_joins : (joins : List Join) → All (IsInCell sites) joins → 2 * length joins ≤ MAX_NEIGHBOURS → is_crowded nx ny sites joins ≡ false
  few_joins joins ends short =
      let lists = neighbour_lists nx ny sites joins in
      false_from_ne_true (list_any is_long lists) (λ crowded.
      let found = Any-from_list_any is_long lists crowded in
      let k = found.0 in
      let within : k < nx * ny * sites = omega (arith, found.2, length-neighbour_lists nx ny sites joins) in
      let is : found.1 ≡ filter (are_joined nx ny sites joins k) (range_with_len 0 (nx * ny * sites)) =
      sym found.3 ∙ get_or_default lists k found.1 [] found.2 ∙ list_of-neighbour_lists nx ny sites joins k within in
      let many : MAX_NEIGHBOURS < length (filter (are_joined nx ny sites joins k) (range_with_len 0 (nx * ny * sites))) =
      ltb-true _ _ (subst (λ l. is_long l ≡ true) is found.4) in
      let few = few_next joins ends k (nx * ny * sites) in
      absurd (omega (arith, many, few, short)))
