-- An output in memory, and the room that is reserved for its bytes.
use Rattle.std.specs.Prelude.{◌≡◌, ℕ, ◌≤◌, List, [], Option, None, Some, if◌then◌else◌, false, length, vec_capacity}
use Rattle.kmc_base.specs.declared.output.Output.{Output}

-- its bytes, where it was begun
abbrev pub told : Output → Option (List ℕ)
told output = if output.begun then Some output.bytes.items else None

-- Its bytes are within the room, for which it has memory. One that was not begun is empty.
pub record IsWithin (room : ℕ) (output : Output) : Type 0 where
  pub within : length output.bytes.items ≤ room
  pub reserved : room ≤ vec_capacity output.bytes
  pub empty : output.begun ≡ false → output.bytes.items ≡ []
