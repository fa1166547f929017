-- searches of the values of a list
use Rattle.std.proofs.Common.{◌≡◌, true, false, cond, IfSome, ◌||◌, ap, Bor, Option, None, Some, is_some, Bool, List, [], ◌∷◌}
use Rattle.std.proofs.Common.{arith, get_or, length, map, refl, sym, ⊎_elim}
use Rattle.std.specs.List.{AllByRecursion, find, list_any}
use Rattle.std.specs.Option.{option_copied, option_map}
use Rattle.std.proofs.lemmas.Bool.{cases_Bool}

-- a value that passes a test is found where some value passes it
pub is_some-find-map : {X Y : Type 0} (p : X → Bool) (h : Y → X) (ys : List Y) → is_some (find (λ y. p (h y)) ys) ≡ list_any p (map h ys)
is_some-find-map p h [] = refl
is_some-find-map p h (y ∷ ys) = ⊎_elim (λ e. rw e refl) (λ e. rw e (is_some-find-map p h ys)) (cases_Bool (p (h y)))

-- the first value that passes a test is that of the first item whose value does
pub find-map : {X Y : Type 0} (p : X → Bool) (h : Y → X) (ys : List Y) → option_map h (find (λ y. p (h y)) ys) ≡ find p (map h ys)
find-map p h [] = refl
find-map p h (y ∷ ys) = ⊎_elim (λ e. rw e refl) (λ e. rw e (find-map p h ys)) (cases_Bool (p (h y)))

-- what a reference in an option points to, as a function sees it
pub option_map-copied : {X Y : Type 0} (h : X → Y) (r : Option (Bor X)) → option_map (λ x. h x.now) r ≡ option_map h (option_copied r)
option_map-copied h None = refl
option_map-copied h (Some x) = refl

pub is_some-copied : {X : Type 0} (r : Option (Bor X)) → is_some r ≡ is_some (option_copied r)
is_some-copied None = refl
is_some-copied (Some x) = refl

pub list_any-map : {X Y : Type 0} (p : X → Bool) (h : Y → X) (ys : List Y) → list_any p (map h ys) ≡ list_any (λ y. p (h y)) ys
list_any-map p h [] = refl
list_any-map p h (y ∷ ys) = ap (λ b. p (h y) || b) (list_any-map p h ys)

-- what holds of each member holds of the one that is found
pub IfSome-find : {X : Type 0} (P : X → Type 0) (p : X → Bool) (xs : List X) → AllByRecursion P xs → IfSome (find p xs) P
IfSome-find P p [] all = tt
IfSome-find P p (x ∷ xs) all = elim (p x) as (λ b. IfSome (cond b (Some x) (find p xs)) P) [ true ↦ all.0 | false ↦ IfSome-find P p xs all.1 ]

-- a list of one member
pub the_one : {X : Type 0} (xs : List X) (x : X) → length xs ≡ 1 → x ≡ get_or xs 0 x → xs ≡ x ∷ []
the_one [] x one is = absurd (omega arith)
the_one (y ∷ []) x one is = ap (λ z. z ∷ []) (sym is)
the_one (y ∷ z ∷ ys) x one is = absurd (omega arith)
