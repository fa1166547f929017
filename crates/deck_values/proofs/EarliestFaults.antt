-- the earliest of several faults
use Rattle.std.proofs.Common.{◌≡◌, ◌∙◌, ◌+◌, ◌++◌, ◌<◌, add-one, ap, append_assoc, refl, sym, Bool}
use Rattle.std.proofs.Common.{true, false, Option, None, Some, List, [], ◌∷◌, ℕ, suc, arith}
use Rattle.std.proofs.Common.{drop, get_or, length, map, Result, Ok, Err}
use Rattle.std.proofs.Math.Seq.{drop-cons}
use Rattle.std.proofs.lemmas.List.{append-nil, map-append}
use Rattle.std.proofs.lemmas.Bool.Decides.{nat_tests}
use Rattle.deck_values.specs.Lists.{fault_if}
use Rattle.deck_words.specs.Faults.{earlier, earliest, fault_of, value_map}
use Rattle.deck_words.specs.declared.fault.LineFault.{LineFault}
use Rattle.deck_values.specs.Readings.{least, with_value}

earlier_groups : (a b c : LineFault) → earlier (earlier a b) c ≡ earlier a (earlier b c)
earlier_groups a b c = grind (arith, nat_tests)

pub earliest_groups : (a b c : Option LineFault) → earliest (earliest a b) c ≡ earliest a (earliest b c)
earliest_groups None b c = refl
earliest_groups (Some a) None c = refl
earliest_groups (Some a) (Some b) None = refl
earliest_groups (Some a) (Some b) (Some c) = ap (λ f. Some f) (earlier_groups a b c)

-- where none is the earliest there is none
pub none_earliest : (a b : Option LineFault) → earliest a b ≡ None → (a ≡ None) × (b ≡ None)
none_earliest None b none = (refl, none)
none_earliest (Some a) None none = absurd (cc)
none_earliest (Some a) (Some b) none = absurd (cc)

-- one test less
pub none_if : (holds : Bool) (line kind : ℕ) (faults : List (Option LineFault)) → least (fault_if holds line kind ∷ faults) ≡ None
    → (holds ≡ false) × (least faults ≡ None)
none_if true line kind faults none = let parts = none_earliest (Some (record { line = line; kind = kind })) (least faults) none in absurd (cc)
none_if false line kind faults none = (refl, none)

-- what is left of a list, and its next member
pub next_left : {X Y : Type 0} (f : X → Y) (xs : List X) (i : ℕ) (x : X) → i < length xs → x ≡ get_or xs i x
    → map f (drop i xs) ≡ f x ∷ map f (drop (i + 1) xs)
next_left f xs i x within is =
    ap (map f) (drop-cons xs i x within)
    ∙ ap (λ y. f y ∷ map f (drop (suc i) xs)) (sym is)
    ∙ ap (λ j. f x ∷ map f (drop j xs)) (sym (add-one i))

module _ {X Y : Type 0} (f : X → Y) where
  -- one reading more gives its value, or its fault
  with_next : (items : List X) (next : Result X LineFault) (rest : List Y)
      → map f (items ++ with_value next []) ++ rest ≡ map f items ++ with_value (value_map f next) rest
  with_next items (Ok x) rest =
      ap (λ ys. ys ++ rest) (map-append f items (x ∷ [])) ∙ append_assoc (map f items) (f x ∷ []) rest
  with_next items (Err fault) rest = ap (λ xs. map f xs ++ rest) (append-nil items)

  pub values_next : (items new : List X) (next : Result X LineFault) (reading : Result Y LineFault) (rest all : List Y)
      → value_map f next ≡ reading → new ≡ items ++ with_value next [] → map f items ++ with_value reading rest ≡ all
      → map f new ++ rest ≡ all
  values_next items new next reading rest all same is before =
      ap (λ xs. map f xs ++ rest) is ∙ with_next items next rest ∙ ap (λ r. map f items ++ with_value r rest) same ∙ before

  same_fault : (next : Result X LineFault) → fault_of next ≡ fault_of (value_map f next)
  same_fault (Ok x) = refl
  same_fault (Err fault) = refl

  pub fault_next : (fault new : Option LineFault) (next : Result X LineFault) (reading : Result Y LineFault) (rest all : Option LineFault)
      → value_map f next ≡ reading → new ≡ earliest fault (fault_of next) → earliest fault (earliest (fault_of reading) rest) ≡ all
      → earliest new rest ≡ all
  fault_next fault new next reading rest all same is before =
      ap (λ g. earliest g rest) is ∙ earliest_groups fault (fault_of next) rest
      ∙ ap (λ g. earliest fault (earliest g rest)) (same_fault next ∙ ap fault_of same) ∙ before
