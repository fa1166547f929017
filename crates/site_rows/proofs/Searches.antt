-- places in lists
use Rattle.std.proofs.Common.{◌≡◌, ℕ, ◌+◌, Bool, true, false, List, [], ◌∷◌, map, Option, Some, cond, ap, sym, ◌∙◌, refl, unwrap_or}
use Rattle.std.specs.List.{position, position_from}
use Rattle.std.specs.Option.{option_map}
use Rattle.std.proofs.lemmas.Iterator.Adapters.{position_from-zero}

position_from-map : {X Y : Type 0} (p : X → Bool) (h : Y → X) (i : ℕ) (ys : List Y) → position_from p i (map h ys) ≡ position_from (λ y. p (h y)) i ys
position_from-map p h i [] = refl
position_from-map p h i (y ∷ ys) = ap (λ r. cond (p (h y)) (Some i) r) (position_from-map p h (i + 1) ys)

position_from-more : {X : Type 0} (p : X → Bool) (i : ℕ) (xs : List X) → position_from p (i + 1) xs ≡ option_map (λ n. n + 1) (position_from p i xs)
position_from-more p i [] = refl
position_from-more p i (x ∷ xs) =
    elim (p x) as (λ b. cond b (Some (i + 1)) (position_from p (i + 1 + 1) xs)
    ≡ option_map (λ n. n + 1) (cond b (Some i) (position_from p (i + 1) xs)))
    [ true ↦ refl | false ↦ position_from-more p (i + 1) xs ]

-- the place of the first value that passes, counted from 1; 0 where none does
pub counted_place : {X Y : Type 0} (p : X → Bool) (h : Y → X) (ys : List Y) (r : Option ℕ) → r ≡ position (λ y. p (h y)) ys
    → unwrap_or (option_map (λ n. n + 1) r) 0 ≡ unwrap_or (position_from p 1 (map h ys)) 0
counted_place p h ys r is =
    let first : position (λ y. p (h y)) ys ≡ position_from (λ y. p (h y)) 0 ys = position_from-zero (λ y. p (h y)) ys in
    ap (λ o. unwrap_or o 0) (ap (option_map (λ n. n + 1)) (is ∙ first) ∙ sym (position_from-more (λ y. p (h y)) 0 ys)
    ∙ sym (position_from-map p h 1 ys))
