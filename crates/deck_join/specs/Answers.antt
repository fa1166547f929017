-- What is found in the files, or their first fault.
use Rattle.std.specs.Prelude.{◌≡◌, ℕ, Option, None, Some, Result, Ok, Err}
use Rattle.deck_shape.specs.declared.fault.DeckFault.{DeckFault}
use Rattle.deck_shape.specs.declared.fault.DeckFault.TheVariants.{Fault as Faulty, OutOfMemory}
use Rattle.deck_shape.specs.declared.fault.Fault.{Fault}
use Rattle.deck_words.specs.declared.fault.LineFault.{LineFault}
use Rattle.kmc_base.specs.declared.ids.FileId.{FileId}

-- go on with what was found, or with the first fault
abbrev pub and_then : {X Y : Type 0} → Result X Fault → (X → Result Y Fault) → Result Y Fault
and_then (Err fault) next = Err fault
and_then (Ok x) next = next x

-- a fault of a file as a whole
abbrev pub file_fault : FileId → ℕ → Fault
file_fault file kind = record { file = file; line = 0; kind = kind }

-- a fault of a line of a file
abbrev pub fault_in : FileId → LineFault → Fault
fault_in file fault = record { file = file; line = fault.line; kind = fault.kind }

-- what is read of a file, or its fault
abbrev pub in_file : {X : Type 0} → FileId → Result X LineFault → Result X Fault
in_file file (Err fault) = Err (fault_in file fault)
in_file file (Ok x) = Ok x

-- nothing, or a fault
abbrev pub unless_fault : Option LineFault → Result (Unit {0}) LineFault
unless_fault None = Ok tt
unless_fault (Some fault) = Err fault

-- A reading ended with a fault: it is the one that a definition gives. Out of memory says nothing of the files.
abbrev pub Ends : {Y : Type 0} → DeckFault → Result Y Fault → Type 0
Ends (Faulty fault) given = given ≡ Err fault
Ends OutOfMemory given = Unit {0}

-- What a reader gave, seen by a view, is what a definition gives: a value, or its fault.
abbrev pub Reads : {X Y : Type 0} → (X → Y) → Result X DeckFault → Result Y Fault → Type 0
Reads view (Ok x) given = given ≡ Ok (view x)
Reads view (Err fault) given = Ends fault given
