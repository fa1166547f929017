-- Lists of neighbours of which some are too long.
use Rattle.std.proofs.Common.{◌≡◌, ℕ, zero, suc, ◌*◌, ◌<◌, ◌≤◌, Bool, true, false, ◌||◌, List, [], ◌∷◌, length, filter, set, refl}
use Rattle.std.proofs.Common.{ap, sym, ◌∙◌, subst, inl, inr, nat_lt, take, arith}
use Rattle.std.specs.List.{list_any, range_with_len}
use Rattle.std.proofs.lemmas.Bool.{cases_Bool, cases_lt, ltb-true, lt-ltb}
use Rattle.std.proofs.lemmas.List.Folds.{Any-from_list_any, list_any_at}
use Rattle.std.proofs.lemmas.List.{get_or_default, get_or_past}
use Rattle.std.proofs.lemmas.List.Elements.{filter_agree}
use Rattle.lattice_core.specs.declared.graph.TheConstants.{MAX_NEIGHBOURS}
use Rattle.lattice_core.specs.SiteList.{is_listed, list_of, merged}
use Rattle.lattice_cell.specs.declared.cell.Join.{Join}
use Rattle.lattice_cell.specs.Periodic.{are_joined, neighbour_lists}
use Rattle.lattice_cell.specs.Naming.{HasEachOnce}
use Rattle.lattice_cell.proofs.Joining.{joined_by, joined_by-all, joined_by-is, joined_by-some}
use Rattle.lattice_cell.proofs.Merged.{length-neighbour_lists, list_of-neighbour_lists, list_of-past}

abbrev pub is_long : List ℕ → Bool
is_long list = nat_lt MAX_NEIGHBOURS (length list)

-- a list that replaces one which is too long is too long as well
pub long-set : (lists : List (List ℕ)) (i : ℕ) (list : List ℕ) → i < length lists
    → (is_long (list_of lists i) ≡ true → is_long list ≡ true)
    → list_any is_long (set lists i list) ≡ (list_any is_long lists || is_long list)
long-set [] i list within grows = absurd (omega arith)
long-set (x ∷ xs) zero list within grows =
    elim (cases_Bool (is_long x)) [
      | inl t ↦ let u = grows t in
          rw (t, u) refl
      | inr f
          ↦ elim (cases_Bool (is_long list)) [ inl u ↦ rw (f, u) (grind arith) | inr g ↦ rw (f, g) (grind arith) ]
    ]
long-set (x ∷ xs) (suc i) list within grows =
    let ih = long-set xs i list (omega arith) grows in
    elim (cases_Bool (is_long x)) [ inl t ↦ rw t refl | inr f ↦ rw f ih ]

-- lists of the same lengths
pub long-same : (xs ys : List (List ℕ)) → length xs ≡ length ys → ((s : ℕ) → length (list_of xs s) ≡ length (list_of ys s))
    → list_any is_long xs ≡ list_any is_long ys
long-same [] [] lengths each = refl
long-same [] (y ∷ ys) lengths each = absurd (omega arith)
long-same (x ∷ xs) [] lengths each = absurd (omega arith)
long-same (x ∷ xs) (y ∷ ys) lengths each =
    let rest = long-same xs ys (omega arith) (λ s. each (suc s)) in
    ap (λ n. nat_lt MAX_NEIGHBOURS n || list_any is_long xs) (each zero) ∙ ap (λ b. is_long y || b) rest

-- a test that passes more keeps more
filter-more : (p q : ℕ → Bool) → ((x : ℕ) → p x ≡ true → q x ≡ true) → (xs : List ℕ) → length (filter p xs) ≤ length (filter q xs)
filter-more p q more [] = omega arith
filter-more p q more (x ∷ xs) =
    let ih = filter-more p q more xs in
    elim (cases_Bool (p x)) [
      | inl t ↦ let u = more x t in rw (t, u) (omega (arith, ih))
      | inr f ↦ elim (cases_Bool (q x)) [ inl u ↦ rw (f, u) (omega (arith, ih)) | inr g ↦ rw (f, g) ih ]
    ]

-- more joins crowd what some of them do
pub crowded-more : (nx ny sites : ℕ) (some all : List Join)
    → ((s t : ℕ) → are_joined nx ny sites some s t ≡ true → are_joined nx ny sites all s t ≡ true)
    → list_any is_long (neighbour_lists nx ny sites some) ≡ true → list_any is_long (neighbour_lists nx ny sites all) ≡ true
crowded-more nx ny sites some all more crowded =
    let found = Any-from_list_any is_long (neighbour_lists nx ny sites some) crowded in
    let k = found.0 in
    let within : k < nx * ny * sites = omega (arith, found.2, length-neighbour_lists nx ny sites some) in
    let r = range_with_len 0 (nx * ny * sites) in
    let is : found.1 ≡ filter (are_joined nx ny sites some k) r =
    sym found.3 ∙ get_or_default (neighbour_lists nx ny sites some) k found.1 [] found.2 ∙ list_of-neighbour_lists nx ny sites some k within in
    let few : MAX_NEIGHBOURS < length (filter (are_joined nx ny sites some k) r) =
    ltb-true _ _ (subst (λ l. is_long l ≡ true) is found.4) in
    let fewer = filter-more (are_joined nx ny sites some k) (are_joined nx ny sites all k) (more k) r in
    list_any_at is_long (neighbour_lists nx ny sites all) k [] (omega (arith, within, length-neighbour_lists nx ny sites all))
    (rw (list_of-neighbour_lists nx ny sites all k within) (lt-ltb _ _ (omega (arith, few, fewer))))

-- lists that name each neighbour once are too long where the neighbour lists are
pub long-as_neighbours : (nx ny sites : ℕ) (joins : List Join) (lists : List (List ℕ)) → length lists ≡ nx * ny * sites
    → HasEachOnce lists → ((s t : ℕ) → is_listed (list_of lists s) t ≡ are_joined nx ny sites joins s t)
    → list_any is_long lists ≡ list_any is_long (neighbour_lists nx ny sites joins)
unfolding merged
long-as_neighbours nx ny sites joins lists count once named =
    let all_sites = range_with_len 0 (nx * ny * sites) in
    long-same lists (neighbour_lists nx ny sites joins) (omega (arith, count, length-neighbour_lists nx ny sites joins))
    (λ s. elim (cases_lt s (nx * ny * sites)) [
      | inl within ↦ once s
          ∙ ap (λ n. length (filter (is_listed (list_of lists s)) (range_with_len 0 n))) count
          ∙ ap length (filter_agree (is_listed (list_of lists s)) (are_joined nx ny sites joins s) (named s) all_sites)
          ∙ ap length (sym (list_of-neighbour_lists nx ny sites joins s within))
      | inr past ↦ ap length (get_or_past lists s [] (omega (arith, count)) ∙ sym (list_of-past nx ny sites joins s past))
    ])

-- what the first of the joins crowd is crowded
pub crowded-some : (nx ny sites : ℕ) (joins : List Join) (i : ℕ) (lists : List (List ℕ)) → length lists ≡ nx * ny * sites
    → HasEachOnce lists → ((s t : ℕ) → is_listed (list_of lists s) t ≡ joined_by nx ny sites (take i joins) s t)
    → list_any is_long lists ≡ true → list_any is_long (neighbour_lists nx ny sites joins) ≡ true
crowded-some nx ny sites joins i lists count once named crowded =
    crowded-more nx ny sites (take i joins) joins (joined_by-some nx ny sites joins i)
    (sym (long-as_neighbours nx ny sites (take i joins) lists count once (λ s t. named s t ∙ joined_by-is nx ny sites (take i joins) s t)) ∙ crowded)

-- and what all of them leave is left
pub crowded-all : (nx ny sites : ℕ) (joins : List Join) (i : ℕ) (lists : List (List ℕ)) → length lists ≡ nx * ny * sites
    → HasEachOnce lists → ((s t : ℕ) → is_listed (list_of lists s) t ≡ joined_by nx ny sites (take i joins) s t) → length joins ≤ i
    → list_any is_long lists ≡ list_any is_long (neighbour_lists nx ny sites joins)
crowded-all nx ny sites joins i lists count once named past =
    long-as_neighbours nx ny sites joins lists count once (λ s t. named s t ∙ joined_by-all nx ny sites joins i s t past)

-- no lists, no long ones
pub none-long : (lists : List (List ℕ)) → ((s : ℕ) → list_of lists s ≡ []) → list_any is_long lists ≡ false
none-long [] none = refl
none-long (x ∷ xs) none = rw (none zero) (none-long xs (λ s. none (suc s)))
