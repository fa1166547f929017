-- the faults of the names on a line
use Rattle.std.proofs.Common.{◌≡◌, ◌||◌, ap, refl, Bool, List, [], ◌∷◌, Err, map, Ok, None, Option, Result, Some}
use Rattle.std.specs.List.{list_any}
use Rattle.deck_words.specs.Faults.{value_map, with_fault}
use Rattle.deck_words.specs.declared.fault.LineFault.{LineFault}

pub list_any-map : {X Y : Type 0} (p : X → Bool) (h : Y → X) (ys : List Y) → list_any p (map h ys) ≡ list_any (λ y. p (h y)) ys
list_any-map p h [] = refl
list_any-map p h (y ∷ ys) = ap (λ b. p (h y) || b) (list_any-map p h ys)

-- a fault stays beside what a function makes of a value
pub with_fault-map : {X Y : Type 0} (f : X → Y) (fault : Option LineFault) (reading : Result X LineFault)
    → value_map f (with_fault fault reading) ≡ with_fault fault (value_map f reading)
with_fault-map f None reading = refl
with_fault-map f (Some fault) (Ok x) = refl
with_fault-map f (Some fault) (Err g) = refl
