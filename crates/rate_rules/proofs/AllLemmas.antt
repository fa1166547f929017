-- What holds of each of a list.
use Rattle.std.proofs.Common.{List, [], ◌∷◌, ◌++◌, map}
use Rattle.std.specs.List.{AllByRecursion}

pub all-append : {X : Type 0} (P : X → Type 0) (xs ys : List X) → AllByRecursion P xs → AllByRecursion P ys → AllByRecursion P (xs ++ ys)
all-append P [] ys p q = q
all-append P (x ∷ xs) ys p q = (p.0, all-append P xs ys p.1 q)

pub all-weaker : {X : Type 0} (P Q : X → Type 0) (xs : List X) → ((x : X) → P x → Q x) → AllByRecursion P xs → AllByRecursion Q xs
all-weaker P Q [] f p = tt
all-weaker P Q (x ∷ xs) f p = (f x p.0, all-weaker P Q xs f p.1)

pub all-map : {X Y : Type 0} (P : X → Type 0) (Q : Y → Type 0) (g : X → Y) (xs : List X) → ((x : X) → P x → Q (g x))
    → AllByRecursion P xs → AllByRecursion Q (map g xs)
all-map P Q g [] f p = tt
all-map P Q g (x ∷ xs) f p = (f x p.0, all-map P Q g xs f p.1)

pub all-from_map : {X Y : Type 0} (Q : Y → Type 0) (g : X → Y) (xs : List X) → AllByRecursion Q (map g xs) → AllByRecursion (λ x. Q (g x)) xs
all-from_map Q g [] p = tt
all-from_map Q g (x ∷ xs) p = (p.0, all-from_map Q g xs p.1)
