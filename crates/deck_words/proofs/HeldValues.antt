-- what holds of the values of readings, by what holds of the values of their parts
use Rattle.std.proofs.Common.{ℕ, IfOk, Option, None, Some, Result, Ok, Err}
use Rattle.deck_words.specs.Faults.{at_line, both, value_map, with_fault}
use Rattle.deck_words.specs.declared.fault.LineFault.{LineFault}

pub both-holds : {X Y : Type 0} (P : X → Type 0) (Q : Y → Type 0) (a : Result X LineFault) (b : Result Y LineFault)
    → IfOk a P → IfOk b Q → IfOk (both a b) (λ found. P found.0 × Q found.1)
both-holds P Q (Ok x) (Ok y) p q = (p, q)
both-holds P Q (Ok x) (Err g) p q = tt
both-holds P Q (Err f) (Ok y) p q = tt
both-holds P Q (Err f) (Err g) p q = tt

pub value_map-holds : {X Y F : Type 0} (P : Y → Type 0) (f : X → Y) (r : Result X F) → IfOk r (λ x. P (f x)) → IfOk (value_map f r) P
value_map-holds P f (Ok x) p = p
value_map-holds P f (Err e) p = tt

pub none-holds : {X : Type 0} (P : X → Type 0) (f : LineFault) (r : Result X LineFault) → IfOk (with_fault (Some f) r) P
none-holds P f (Ok x) = tt
none-holds P f (Err g) = tt

pub with_fault-holds : {X : Type 0} (P : X → Type 0) (fault : Option LineFault) (r : Result X LineFault) → IfOk r P → IfOk (with_fault fault r) P
with_fault-holds P None r p = p
with_fault-holds P (Some f) r p = none-holds P f r

pub at_line-holds : {X : Type 0} (P : X → Type 0) (line : ℕ) (r : Result X ℕ) → IfOk r P → IfOk (at_line line r) P
at_line-holds P line (Ok x) p = p
at_line-holds P line (Err kind) p = tt
