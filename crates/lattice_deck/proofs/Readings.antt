-- what a reading gives, and what holds of it
use Rattle.std.proofs.Common.{◌≡◌, ap, refl, sym, Option, None, Some, IfOk, IfSome, Result, Ok, Err}
use Rattle.std.specs.Result.{result_ok}
use Rattle.deck_words.specs.Faults.{both, value_map, when_read, with_fault}
use Rattle.deck_words.specs.declared.fault.LineFault.{LineFault}

module _ {X : Type 0} (P : X → Type 0) where
  pub some_ok : (r : Result X LineFault) → IfOk r P → IfSome (result_ok r) P
  some_ok (Ok x) holds = holds
  some_ok (Err f) holds = tt

  pub is_ok : (r : Result X LineFault) (x : X) → r ≡ Ok x → IfOk r P → P x
  is_ok (Ok y) x is holds = let e : y ≡ x = cc in rw (sym e) holds
  is_ok (Err f) x is holds = absurd (cc)

  pub is_some : (r : Result X LineFault) (x : X) → result_ok r ≡ Some x → IfOk r P → P x
  is_some (Ok y) x is holds = let e : y ≡ x = cc in rw (sym e) holds
  is_some (Err f) x is holds = absurd (cc)

pub when_ok : {X Y : Type 0} (P : Y → Type 0) (Q : X → Type 0) (read : X → Result Y LineFault) (r : Result X LineFault)
    → IfOk r Q → ((x : X) → Q x → IfOk (read x) P) → IfOk (when_read read r) P
when_ok P Q read (Ok x) holds next = next x holds
when_ok P Q read (Err f) holds next = tt

-- the parts of two values that are read
pub both_parts : {X Y : Type 0} (a : Result X LineFault) (b : Result Y LineFault) (r : X × Y) → both a b ≡ Ok r → (a ≡ Ok r.0) × (b ≡ Ok r.1)
both_parts (Ok x) (Ok y) r is = let e : (x, y) ≡ r = cc in (ap (λ p. Ok p.0) e, ap (λ p. Ok p.1) e)
both_parts (Ok x) (Err g) r is = absurd (cc)
both_parts (Err f) (Ok y) r is = absurd (cc)
both_parts (Err f) (Err g) r is = absurd (cc)

pub without_fault : {X : Type 0} (fault : Option LineFault) (a : Result X LineFault) (x : X) → with_fault fault a ≡ Ok x → a ≡ Ok x
without_fault None a x is = is
without_fault (Some f) (Ok y) x is = absurd (cc)
without_fault (Some f) (Err g) x is = absurd (cc)

-- a value that is kept has no fault beside it
pub kept_ok : {X : Type 0} (P : X → Type 0) (fault : Option LineFault) (x : X) → (fault ≡ None → P x) → IfOk (with_fault fault (Ok x)) P
kept_ok P None x p = p refl
kept_ok P (Some fault) x p = tt

-- what functions make of values that are read together
pub both_mapped : {A B C D : Type 0} (f : A → B) (g : C → D) (a : Result A LineFault) (b : Result C LineFault)
    → both (value_map f a) (value_map g b) ≡ value_map (λ p. (f p.0, g p.1)) (both a b)
both_mapped f g (Ok x) (Ok y) = refl
both_mapped f g (Ok x) (Err e) = refl
both_mapped f g (Err e) (Ok y) = refl
both_mapped f g (Err d) (Err e) = refl

pub value_same : {A : Type 0} (a : Result A LineFault) → a ≡ value_map (λ x. x) a
value_same (Ok x) = refl
value_same (Err e) = refl

-- what holds of a value that is handed on
pub handed_on : {X E F : Type 0} (P : X → Type 0) (r : Result X E) (s : Result X F) → IfOk s (λ x. r ≡ Ok x) → IfOk r P → IfOk s P
handed_on P (Ok x) (Ok y) same holds = let e : x ≡ y = cc in rw (sym e) holds
handed_on P (Err f) (Ok y) same holds = absurd (cc)
handed_on P r (Err g) same holds = tt
