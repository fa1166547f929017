-- What a list names after more is added at its end.
use Rattle.std.proofs.Common.{◌≡◌, ℕ, ◌+◌, ◌-◌, ◌<◌, ◌≤◌, Bool, true, false, ◌||◌, eqb, List, length, get_or, take, drop, refl, sym, ◌∙◌, ap, arith}
use Rattle.std.proofs.lemmas.List.{take-take, take_all, length-take, length-drop, get_or-take, get_or-drop, get_or-map}
use Rattle.std.proofs.lemmas.List.Folds.{list_any_more}
use Rattle.std.specs.List.{list_any}
use Rattle.kmc_base.specs.declared.ids.SiteId.{SiteId}
use Rattle.lattice_core.specs.SiteList.{site_numbers, is_listed, Adds, BeginsWith}

or_assoc : (a b c : Bool) → ((a || b) || c) ≡ (a || (b || c))
or_assoc true b c = refl
or_assoc false b c = refl

-- what is added first and what is added next
pub Adds-then : (a b c : List ℕ) (p q r : ℕ → Bool) → Adds a b p → Adds b c q → ((s : ℕ) → (p s || q s) ≡ r s) → Adds a c r
Adds-then a b c p q r first next both s =
    next s ∙ ap (λ x. x || q s) (first s) ∙ or_assoc (is_listed a s) (p s) (q s) ∙ ap (λ x. is_listed a s || x) (both s)

-- one more of a list
pub is_listed-more : (xs : List ℕ) (i x s : ℕ) → i < length xs → get_or xs i 0 ≡ x
    → (is_listed (take i xs) s || eqb x s) ≡ is_listed (take (i + 1) xs) s
is_listed-more xs i x s within is =
    sym (list_any_more (λ t. eqb t s) xs i 0 within ∙ ap (λ y. is_listed (take i xs) s || eqb y s) is)

-- a list begins with what a front of it begins with
pub BeginsWith-trans : (a b c : List ℕ) → BeginsWith b a → BeginsWith c b → BeginsWith c a
BeginsWith-trans a b c first next =
    let short : length a ≤ length b = omega (arith, length-take (length a) b, ap length first) in
    sym (take-take (length a) (length b) c short) ∙ ap (take (length a)) next ∙ first

-- a list is no shorter than what it begins with, and has the same in its places
pub BeginsWith-length : (a c : List ℕ) → BeginsWith c a → length a ≤ length c
BeginsWith-length a c front = omega (arith, length-take (length a) c, ap length front)

pub BeginsWith-at : (a c : List ℕ) (i : ℕ) → BeginsWith c a → i < length a → get_or c i 0 ≡ get_or a i 0
BeginsWith-at a c i front within = sym (get_or-take (length a) c i 0 within) ∙ ap (λ l. get_or l i 0) front

-- the number of a site that was read
pub number_read : (xs : List SiteId) (i : ℕ) (x : SiteId) → i < length xs → x ≡ get_or xs i x → get_or (site_numbers xs) i 0 ≡ x.0
number_read xs i x within is = get_or-map (λ (s : SiteId). s.0) xs i x 0 within ∙ ap (λ (s : SiteId). s.0) (sym is)

-- one more of what stands from a place on
pub any_more : (g : ℕ → Bool) (xs : List ℕ) (first place x : ℕ) → first ≤ place → place < length xs
    → get_or xs place 0 ≡ x
    → (list_any g (take (place - first) (drop first xs)) || g x)
    ≡ list_any g (take (place + 1 - first) (drop first xs))
any_more g xs first place x late within is =
    let next : place - first + 1 ≡ place + 1 - first = omega arith in
    let here : first + (place - first) ≡ place = omega arith in
    let at : get_or (drop first xs) (place - first) 0 ≡ x = get_or-drop first xs (place - first) 0 ∙ (rw here is) in
    let more = list_any_more g (drop first xs) (place - first) 0 (omega (arith, length-drop first xs)) in
    sym (ap (λ n. list_any g (take n (drop first xs))) (sym next) ∙ more ∙ ap (λ y. list_any g (take (place - first) (drop first xs)) || g y) at)

-- and all of it
pub take_rest_all : (xs : List ℕ) (first place : ℕ) → length xs ≤ place → take (place - first) (drop first xs) ≡ drop first xs
take_rest_all xs first place past = take_all (place - first) (drop first xs) (omega (arith, length-drop first xs))
