-- The members of lists that are made of others.
use Rattle.std.proofs.Common.{◌≡◌, Bool, true, List, [], ◌∷◌, get_or, map, filter, All, Contains, refl, sym, ap, ◌∙◌, subst, arith, inl, inr, ◌⊎◌}
use Rattle.std.specs.List.{flat_map}
use Rattle.std.proofs.lemmas.Bool.{cases_Bool}
use Rattle.std.proofs.lemmas.List.Elements.{All-contains, Contains-append_left, Contains-append_right, Contains-append_cases}
use Rattle.std.proofs.lemmas.List.Elements.{Contains-get_or, filter_passes}

module _ {X : Type 0} where
  pub in-none : (x : X) → Contains [] x → ⊥
  in-none x c = let k = c.1 in omega arith

  pub in-first : (x : X) (xs : List X) → Contains (x ∷ xs) x
  in-first x xs = (0, omega arith, refl)

  pub in-rest : (x : X) (xs : List X) (y : X) → Contains xs y → Contains (x ∷ xs) y
  in-rest x xs y c = Contains-append_right (x ∷ []) xs y c

  in-single : (x y : X) → Contains (x ∷ []) y → x ≡ y
  in-single x y c = let k = c.1 in let e : 0 ≡ c.0 = omega arith in ap (λ i. get_or (x ∷ []) i y) e ∙ c.2

  pub in-cases : (x : X) (xs : List X) (y : X) → Contains (x ∷ xs) y → (x ≡ y) ⊎ Contains xs y
  in-cases x xs y c = elim (Contains-append_cases (x ∷ []) xs y c) [ inl here ↦ inl (in-single x y here) | inr there ↦ inr there ]

  pub in-filter : (p : X → Bool) (xs : List X) (x : X) → Contains xs x → p x ≡ true → Contains (filter p xs) x
  in-filter p [] x c passes = absurd (in-none x c)
  in-filter p (y ∷ ys) x c passes =
      elim (in-cases y ys x c) [
        | inl e ↦ let here : p y ≡ true = subst (λ z. p z ≡ true) (sym e) passes in
            rw here (subst (Contains (y ∷ filter p ys)) e (in-first y (filter p ys)))
        | inr there ↦ let rest = in-filter p ys x there passes in
            elim (cases_Bool (p y)) [ inl t ↦ rw t (in-rest y (filter p ys) x rest) | inr f ↦ rw f rest ]
      ]

  pub from-filter : (p : X → Bool) (xs : List X) (x : X) → Contains (filter p xs) x → Contains xs x
  from-filter p [] x c = c
  from-filter p (y ∷ ys) x c =
      elim (cases_Bool (p y)) [
        | inl t ↦ elim (in-cases y (filter p ys) x (rw t at c)) [
          | inl e ↦ subst (Contains (y ∷ ys)) e (in-first y ys)
          | inr there ↦ in-rest y ys x
              (from-filter p ys x there)
        ]
        | inr f ↦ in-rest y ys x (from-filter p ys x (rw f at c))
      ]

  pub passes-filter : (p : X → Bool) (xs : List X) (x : X) → Contains (filter p xs) x → p x ≡ true
  passes-filter p xs x c = All-contains (λ y. p y ≡ true) (filter p xs) x (filter_passes p xs) c

  -- what holds of each member holds of all
  pub All-members : (P : X → Type 0) (xs : List X) → ((x : X) → Contains xs x → P x) → All P xs
  All-members P xs each k d within = each (get_or xs k d) (Contains-get_or xs k d within)

module _ {X Y : Type 0} where
  pub in-map : (f : X → Y) (xs : List X) (x : X) → Contains xs x → Contains (map f xs) (f x)
  in-map f [] x c = absurd (in-none x c)
  in-map f (y ∷ ys) x c =
      elim (in-cases y ys x c) [
        | inl e ↦ subst (λ z. Contains (f y ∷ map f ys) (f z)) e (in-first (f y) (map f ys))
        | inr there ↦ in-rest (f y) (map f ys) (f x) (in-map f ys x there)
      ]

  pub from-map : (f : X → Y) (xs : List X) (y : Y) → Contains (map f xs) y → (x : X) × Contains xs x × (f x ≡ y)
  from-map f [] y c = absurd (in-none y c)
  from-map f (x ∷ xs) y c =
      elim (in-cases (f x) (map f xs) y c) [
        | inl e ↦ (x, in-first x xs, e)
        | inr there ↦ let found = from-map f xs y there in (found.0, in-rest x xs found.0 found.1, found.2)
      ]

  pub in-flat_map : (f : X → List Y) (xs : List X) (x : X) (y : Y) → Contains xs x → Contains (f x) y → Contains (flat_map f xs) y
  in-flat_map f [] x y c d = absurd (in-none x c)
  in-flat_map f (z ∷ zs) x y c d =
      elim (in-cases z zs x c) [
        | inl e ↦ Contains-append_left (f z) (flat_map f zs) y (subst (λ w. Contains (f w) y) (sym e) d)
        | inr there ↦ Contains-append_right (f z) (flat_map f zs) y (in-flat_map f zs x y there d)
      ]

  pub from-flat_map : (f : X → List Y) (xs : List X) (y : Y) → Contains (flat_map f xs) y → (x : X) × Contains xs x × Contains (f x) y
  from-flat_map f [] y c = absurd (in-none y c)
  from-flat_map f (x ∷ xs) y c =
      elim (Contains-append_cases (f x) (flat_map f xs) y c) [
        | inl here ↦ (x, in-first x xs, here)
        | inr there ↦ let found = from-flat_map f xs y there in (found.0, in-rest x xs found.0 found.1, found.2)
      ]
