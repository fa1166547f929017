-- The tree over the rooms of a slab that finds the firing that comes first. Node i leads room i and the nodes 2i + 1 and
-- 2i + 2, so node 0 leads all rooms. No public contract cites this.
use Rattle.std.specs.Prelude.{◌≡◌, ◌≢◌, ℕ, ◌+◌, ◌*◌, ◌≤◌, List, length, Option, None, IfSome, option_and_then, slice_index_or}
use Rattle.kmc_base.specs.Entries.{first_of_two, firing_of}
use Rattle.kmc_base.specs.declared.entry.Entry.{Entry}
use Rattle.kmc_base.specs.declared.entry.Firing.{Firing}
use Rattle.process_queue.specs.declared.lead.TheConstants.{NO_CODE}

-- the firing of the entry in a room, if there is one and it has a time
abbrev pub room_firing : List (Option Entry) → ℕ → Option Firing
room_firing slots room = option_and_then firing_of (slice_index_or slots room None)

-- the firing that a node names
abbrev pub lead_at : List (Option Firing) → ℕ → Option Firing
lead_at leads node = slice_index_or leads node None

-- the firing that it should name: the first of its room and the two nodes below it
abbrev pub lead_from : List (Option Entry) → List (Option Firing) → ℕ → Option Firing
lead_from slots leads node =
    first_of_two (first_of_two (room_firing slots node) (lead_at leads (2 * node + 1))) (lead_at leads (2 * node + 2))

-- a firing has the code of an instance
abbrev pub IsReal : Option Firing → Type 0
IsReal lead = IfSome lead (λ firing. firing.code ≢ NO_CODE)

-- the firings of all rooms have
abbrev pub AreReal : List (Option Entry) → Type 0
AreReal slots = (room : ℕ) → IsReal (room_firing slots room)

-- each node names what it should
abbrev pub IsRight : List (Option Entry) → List (Option Firing) → Type 0
IsRight slots leads = (node : ℕ) → lead_at leads node ≡ lead_from slots leads node

-- each node but one does
abbrev pub IsRightBut : List (Option Entry) → List (Option Firing) → ℕ → Type 0
IsRightBut slots leads wrong = (node : ℕ) → node ≢ wrong → lead_at leads node ≡ lead_from slots leads node

-- the tree of a slab: each room that has an entry has a node
pub record IsTree (slots : List (Option Entry)) (leads : List (Option Firing)) : Type 0 where
  pub real : AreReal slots
  pub right : IsRight slots leads
  pub within : (room : ℕ) → length leads ≤ room → slice_index_or slots room None ≡ None
