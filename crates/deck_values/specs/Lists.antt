-- The lists of the input files.
use Rattle.std.specs.Prelude.{ℕ, ◌==◌, Bool, false, not, List, [], length, map, Option, None, Some, Result, Ok, if◌then◌else◌, nat_lt}
use Rattle.deck_words.specs.Faults.{all_of, at_line, with_fault}
use Rattle.deck_words.specs.declared.fault.LineFault.{LineFault}
use Rattle.deck_words.specs.declared.kind.TheConstants.{LIST_LENGTH}

-- a fault on a line, where it holds
abbrev pub fault_if : Bool → ℕ → ℕ → Option LineFault
fault_if holds line kind = if holds then Some (record { line = line; kind = kind }) else None

-- a list has another length than is stated, where that number has no fault
abbrev pub has_other_length : Option ℕ → ℕ → Bool
has_other_length None members = false
has_other_length (Some count) members = not (members == count)

-- the fault of a list of another length than is stated
abbrev pub length_fault : ℕ → Option ℕ → ℕ → Option LineFault
length_fault line count members = fault_if (has_other_length count members) line LIST_LENGTH

-- the members of the list on a line, each read in one way
abbrev pub list_on : {X : Type 0} → (List ℕ → Result X ℕ) → Option ℕ → ℕ → List (List ℕ) → Result (List X) LineFault
list_on read count line words = with_fault (length_fault line count (length words)) (all_of (map (λ word. at_line line (read word)) words))

-- a list that is absent should have members
abbrev pub has_members : Option ℕ → Bool
has_members None = false
has_members (Some count) = nat_lt 0 count

-- a list that is absent: it is empty, or a fault of the closing line where it should have members
abbrev pub absent_list : {X : Type 0} → Option ℕ → ℕ → Result (List X) LineFault
absent_list count end_line = with_fault (fault_if (has_members count) end_line LIST_LENGTH) (Ok [])
