-- Lists of readings: the values of those without a fault, and the fault that counts of the others.
use Rattle.std.specs.Prelude.{List, [], ◌∷◌, map, Option, None, Some, Result, Ok, Err}
use Rattle.deck_words.specs.Faults.{earliest, fault_of}
use Rattle.deck_words.specs.declared.fault.LineFault.{LineFault}

-- the earliest of some faults
abbrev pub least : List (Option LineFault) → Option LineFault
least [] = None
least (fault ∷ faults) = earliest fault (least faults)

-- the values of some readings, before others
abbrev pub with_value : {X : Type 0} → Result X LineFault → List X → List X
with_value (Ok value) values = value ∷ values
with_value (Err fault) values = values

-- the values of some readings
abbrev pub values_of : {X : Type 0} → List (Result X LineFault) → List X
values_of [] = []
values_of (reading ∷ readings) = with_value reading (values_of readings)

-- the earliest of their faults
abbrev pub least_fault : {X : Type 0} → List (Result X LineFault) → Option LineFault
least_fault readings = least (map fault_of readings)
