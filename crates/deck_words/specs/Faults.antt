-- Which of several faults of a file is its fault: that of the earliest line, and of one line that of the least kind.
use Rattle.std.specs.Prelude.{ℕ, ◌==◌, ◌&&◌, ◌||◌, Bool, List, [], ◌∷◌, Option, None, Some, Result, Ok, Err, if◌then◌else◌, nat_le, nat_lt}
use Rattle.std.specs.Result.{result_map_both}
use Rattle.deck_words.specs.declared.fault.LineFault.{LineFault}

-- a fault comes before another one, or is the same
abbrev pub is_before : LineFault → LineFault → Bool
is_before a b = nat_lt a.line b.line || (a.line == b.line && nat_le a.kind b.kind)

-- the earlier of two faults
abbrev pub earlier : LineFault → LineFault → LineFault
earlier a b = if is_before a b then a else b

-- the earlier of two faults, where there are any
abbrev pub earliest : Option LineFault → Option LineFault → Option LineFault
earliest None other = other
earliest (Some fault) None = Some fault
earliest (Some fault) (Some other) = Some (earlier fault other)

-- the fault of a reading
abbrev pub fault_of : {X : Type 0} → Result X LineFault → Option LineFault
fault_of (Ok value) = None
fault_of (Err fault) = Some fault

-- what is read on a line, with the line for its fault
abbrev pub at_line : {X : Type 0} → ℕ → Result X ℕ → Result X LineFault
at_line line (Ok value) = Ok value
at_line line (Err kind) = Err (record { line = line; kind = kind })

-- two values, or the earlier of their faults
abbrev pub both : {X Y : Type 0} → Result X LineFault → Result Y LineFault → Result (X × Y) LineFault
both (Ok x) (Ok y) = Ok (x, y)
both (Ok x) (Err f) = Err f
both (Err f) (Ok y) = Err f
both (Err f) (Err g) = Err (earlier f g)

-- what a function makes of a value that is read
abbrev pub value_map : {X Y F : Type 0} → (X → Y) → Result X F → Result Y F
value_map f reading = result_map_both f (λ fault. fault) reading

-- the members of a list, or the earliest of their faults
abbrev pub all_of : {X : Type 0} → List (Result X LineFault) → Result (List X) LineFault
all_of [] = Ok []
all_of (first ∷ rest) = value_map (λ found. found.0 ∷ found.1) (both first (all_of rest))

-- a value, unless there is another fault; then the earlier of the faults
abbrev pub with_fault : {X : Type 0} → Option LineFault → Result X LineFault → Result X LineFault
with_fault None reading = reading
with_fault (Some f) (Ok x) = Err f
with_fault (Some f) (Err g) = Err (earlier f g)

-- what is read of a value, unless that has a fault itself
abbrev pub when_read : {X Y : Type 0} → (X → Result Y LineFault) → Result X LineFault → Result Y LineFault
when_read read (Ok value) = read value
when_read read (Err fault) = Err fault
