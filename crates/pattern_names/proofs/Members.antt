-- what holds of the members of a list that are read one by one
use Rattle.std.proofs.Common.{◌≡◌, ◌<◌, ℕ, zero, suc, ap, refl, sym, subst, ◌∙◌, arith, IfOk, List, [], ◌∷◌, Result, get_or, length, map}
use Rattle.std.proofs.lemmas.Result.{IfOk-weaker}
use Rattle.std.specs.List.{AllByRecursion}
use Rattle.deck_words.proofs.HeldValues.{both-holds, value_map-holds}
use Rattle.deck_words.specs.Faults.{all_of, both}
use Rattle.deck_words.specs.declared.fault.LineFault.{LineFault}

-- so many members, of each of which P holds
abbrev pub AreSo : {X Y : Type 0} → (Y → Type 0) → List X → List Y → Type 0
AreSo P xs ys = (length ys ≡ length xs) × AllByRecursion P ys

-- what holds of the value of each of which Q holds, holds of the members
pub members-hold : {X Y : Type 0} (Q : X → Type 0) (P : Y → Type 0) (read : X → Result Y LineFault) → ((x : X) → Q x → IfOk (read x) P)
    → (xs : List X) → AllByRecursion Q xs → IfOk (all_of (map read xs)) (AreSo P xs)
members-hold Q P read p [] all = (refl, tt)
members-hold Q P read p (x ∷ xs) all =
    let first = read x in
    let rest = all_of (map read xs) in
    value_map-holds (AreSo P (x ∷ xs)) (λ found. found.0 ∷ found.1) (both first rest)
    (IfOk-weaker (both first rest) (λ found. P found.0 × AreSo P xs found.1) _ (λ found so. (ap suc so.1.0, (so.0, so.1.1)))
    (both-holds P (AreSo P xs) first rest (p x all.0) (members-hold Q P read p xs all.1)))

-- values that a function gives unless they have a fault are what it gives
pub members-are : {X Y : Type 0} (read : X → Result Y LineFault) (f : X → Y) → ((x : X) → IfOk (read x) (λ y. y ≡ f x))
    → (xs : List X) → IfOk (all_of (map read xs)) (λ ys. ys ≡ map f xs)
members-are read f p [] = refl
members-are read f p (x ∷ xs) =
    let first = read x in
    let rest = all_of (map read xs) in
    value_map-holds (λ ys. ys ≡ map f (x ∷ xs)) (λ found. found.0 ∷ found.1) (both first rest)
    (IfOk-weaker (both first rest) (λ found. (found.0 ≡ f x) × (found.1 ≡ map f xs)) _
    (λ found so. ap (λ y. y ∷ found.1) so.0 ∙ ap (λ ys. f x ∷ ys) so.1)
    (both-holds (λ y. y ≡ f x) (λ ys. ys ≡ map f xs) first rest (p x) (members-are read f p xs)))

-- what holds of all members, holds of each
pub member : {X Y : Type 0} (P : Y → Type 0) (f : X → Y) (xs : List X) (i : ℕ) (x : X) → i < length xs → x ≡ get_or xs i x
    → AllByRecursion P (map f xs) → P (f x)
member P f [] i x within is all = absurd (omega (arith, within))
member P f (y ∷ ys) zero x within is all = subst (λ z. P (f z)) (sym is) all.0
member P f (y ∷ ys) (suc i) x within is all = member P f ys i x (omega (arith, within)) is all.1
