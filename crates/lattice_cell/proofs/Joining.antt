-- What joins have joined after some cells, and after some of them.
use Rattle.std.proofs.Common.{◌≡◌, ℕ, ◌+◌, ◌*◌, ◌<◌, ◌≤◌, Bool, true, false, ◌&&◌, ◌||◌, eqb, List, [], ◌∷◌, length, get_or, map, take, drop, refl}
use Rattle.std.proofs.Common.{sym, ◌∙◌, ap, arith}
use Rattle.std.specs.List.{list_any, range_with_len}
use Rattle.std.proofs.Math.Bool.{or_comm}
use Rattle.std.proofs.lemmas.Bool.{or_left}
use Rattle.std.proofs.lemmas.List.{take_all, take-append-drop}
use Rattle.std.proofs.lemmas.List.Elements.{filter_agree}
use Rattle.std.proofs.lemmas.List.Folds.{list_any_more, list_any-append}
use Rattle.std.proofs.lemmas.List.FromFn.{length-range_with_len, get_or-range_with_len}
use Rattle.std.specs.declared.vec.Vec.{Vec}
use Rattle.std.specs.declared.alloc.Global.{Global}
use Rattle.kmc_base.specs.declared.ids.SiteId.{SiteId}
use Rattle.lattice_cell.specs.declared.cell.Join.{Join}
use Rattle.lattice_cell.specs.declared.cell.Toward.TheVariants.{Own}
use Rattle.lattice_cell.specs.Naming.{names, NamesMore}
use Rattle.lattice_cell.specs.Cells.{displaced, site_at}
use Rattle.lattice_cell.specs.Periodic.{joins_at, joins_sites, are_joined, neighbour_lists}

-- one more number
pub any_below_more : (g : ℕ → Bool) (n i : ℕ) → i < n
    → (list_any g (take i (range_with_len 0 n)) || g i) ≡ list_any g (take (i + 1) (range_with_len 0 n))
any_below_more g n i within =
    let r = range_with_len 0 n in
    let at : get_or r i 0 ≡ i = omega (arith, get_or-range_with_len 0 n i 0 within) in
    let long : i < length r = omega (arith, length-range_with_len 0 n) in
    sym (list_any_more g r i 0 long ∙ ap (λ x. list_any g (take i r) || g x) at)

-- all numbers
pub any_below_all : (g : ℕ → Bool) (n i : ℕ) → n ≤ i → list_any g (take i (range_with_len 0 n)) ≡ list_any g (range_with_len 0 n)
any_below_all g n i past = ap (list_any g) (take_all i (range_with_len 0 n) (omega (arith, length-range_with_len 0 n)))

or_regroup : (a b c d : Bool) → ((a || b) || (c || d)) ≡ ((a || c) || (b || d))
or_regroup true b c d = refl
or_regroup false true true d = refl
or_regroup false true false d = refl
or_regroup false false c d = refl

-- either of two tests
list_any-or : (p q : ℕ → Bool) (xs : List ℕ) → list_any (λ x. p x || q x) xs ≡ (list_any p xs || list_any q xs)
list_any-or p q [] = refl
list_any-or p q (x ∷ xs) = ap (λ b. (p x || q x) || b) (list_any-or p q xs) ∙ or_regroup (p x) (q x) (list_any p xs) (list_any q xs)

-- in all cells a join joins two sites in one order or in the other
pub joins_cells : (nx ny sites : ℕ) (join : Join) (s t : ℕ)
    → list_any (λ c. joins_at nx ny sites join s t c || joins_at nx ny sites join t s c) (range_with_len 0 (nx * ny))
    ≡ (joins_sites nx ny sites join s t || joins_sites nx ny sites join t s)
unfolding joins_sites
joins_cells nx ny sites join s t = list_any-or (joins_at nx ny sites join s t) (joins_at nx ny sites join t s) (range_with_len 0 (nx * ny))

-- two sites are joined in both orders
pub are_joined-flip : (nx ny sites : ℕ) (joins : List Join) (s t : ℕ) → are_joined nx ny sites joins s t ≡ are_joined nx ny sites joins t s
unfolding are_joined
are_joined-flip nx ny sites [] s t = refl
are_joined-flip nx ny sites (j ∷ js) s t =
    let first = or_comm (joins_sites nx ny sites j s t) (joins_sites nx ny sites j t s) in
    let rest = are_joined-flip nx ny sites js s t in
    rw (first, rest) refl

-- the sites that some of the joins join
abbrev pub joined_by : ℕ → ℕ → ℕ → List Join → ℕ → ℕ → Bool
joined_by nx ny sites joins s t = list_any (λ join. joins_sites nx ny sites join s t || joins_sites nx ny sites join t s) joins

pub joined_by-all : (nx ny sites : ℕ) (joins : List Join) (i s t : ℕ) → length joins ≤ i
    → joined_by nx ny sites (take i joins) s t ≡ are_joined nx ny sites joins s t
unfolding are_joined
joined_by-all nx ny sites joins i s t past = ap (λ l. joined_by nx ny sites l s t) (take_all i joins past)

-- one more of the joins
joined_by-more : (nx ny sites : ℕ) (joins : List Join) (i : ℕ) (default : Join) (s t : ℕ) → i < length joins
    → (joined_by nx ny sites (take i joins) s t
    || (joins_sites nx ny sites (get_or joins i default) s t || joins_sites nx ny sites (get_or joins i default) t s))
    ≡ joined_by nx ny sites (take (i + 1) joins) s t
joined_by-more nx ny sites joins i default s t within =
    sym (list_any_more (λ j. joins_sites nx ny sites j s t || joins_sites nx ny sites j t s) joins i default within)

-- what lists name once one more of the joins has joined its sites
pub named-more : (nx ny sites : ℕ) (joins : List Join) (i : ℕ) (before after : List (Vec SiteId Global)) → i < length joins
    → ((s t : ℕ) → names before s t ≡ joined_by nx ny sites (take i joins) s t)
    → NamesMore before after (λ s t. joins_sites nx ny sites (get_or joins i (record { from = 0; to = 0; toward = Own })) s t
    || joins_sites nx ny sites (get_or joins i (record { from = 0; to = 0; toward = Own })) t s)
    → (s t : ℕ) → names after s t ≡ joined_by nx ny sites (take (i + 1) joins) s t
named-more nx ny sites joins i before after within named more s t =
    let join = get_or joins i (record { from = 0; to = 0; toward = Own }) in
    more s t
    ∙ ap (λ x. x || (joins_sites nx ny sites join s t || joins_sites nx ny sites join t s)) (named s t)
    ∙ joined_by-more nx ny sites joins i (record { from = 0; to = 0; toward = Own }) s t within

-- some of the joins join no more than all
pub joined_by-some : (nx ny sites : ℕ) (joins : List Join) (i s t : ℕ)
    → are_joined nx ny sites (take i joins) s t ≡ true → are_joined nx ny sites joins s t ≡ true
unfolding are_joined
joined_by-some nx ny sites joins i s t joined =
    let p : Join → Bool = λ join. joins_sites nx ny sites join s t || joins_sites nx ny sites join t s in
    ap (list_any p) (sym (take-append-drop i joins)) ∙ list_any-append p (take i joins) (drop i joins) ∙ or_left _ _ joined

pub joined_by-is : (nx ny sites : ℕ) (joins : List Join) (s t : ℕ) → joined_by nx ny sites joins s t ≡ are_joined nx ny sites joins s t
unfolding are_joined
joined_by-is nx ny sites joins s t = refl

-- the sites that a join joins in a cell
pub joins_here : (nx ny sites : ℕ) (join : Join) (cell s t a b : ℕ) → s ≡ site_at sites cell join.from
    → t ≡ site_at sites (displaced nx ny join.toward cell) join.to
    → (eqb s a && eqb t b || eqb s b && eqb t a)
    ≡ (joins_at nx ny sites join a b cell || joins_at nx ny sites join b a cell)
joins_here nx ny sites join cell s t a b first second =
    ap (λ x. eqb x a && eqb t b || eqb x b && eqb t a) first
    ∙ ap (λ y. eqb (site_at sites cell join.from) a && eqb y b || eqb (site_at sites cell join.from) b && eqb y a) second

map-agree : (f g : ℕ → List ℕ) → ((x : ℕ) → f x ≡ g x) → (xs : List ℕ) → map f xs ≡ map g xs
map-agree f g same [] = refl
map-agree f g same (x ∷ xs) = rw (same x, map-agree f g same xs) refl

-- joins that pass the same tests give the same neighbours
pub neighbour_lists-same : (nx ny sites : ℕ) (a b : List Join) → ((p : Join → Bool) → list_any p a ≡ list_any p b)
    → neighbour_lists nx ny sites a ≡ neighbour_lists nx ny sites b
unfolding neighbour_lists are_joined
neighbour_lists-same nx ny sites a b same =
    let all_sites = range_with_len 0 (nx * ny * sites) in
    map-agree _ _ (λ s. filter_agree _ _
    (λ t. same (λ join. joins_sites nx ny sites join s t || joins_sites nx ny sites join t s)) all_sites)
    all_sites
