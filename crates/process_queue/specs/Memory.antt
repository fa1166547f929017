-- For how many entries there is memory. No public contract cites this.
use Rattle.std.specs.Prelude.{ℕ, ◌≤◌, List, length, slice_index_or}
use Rattle.std.specs.List.{All, sum_by}
use Rattle.process_queue.specs.declared.part.AnchorEntries.{AnchorEntries}

-- how many entries some parts have
abbrev pub entry_count : List AnchorEntries → ℕ
entry_count parts = sum_by (λ part. length part.entries) parts

-- the list of each anchor has memory for the rooms of its part, by what the list of each site has
abbrev pub HaveListMemory : List ℕ → List AnchorEntries → Type 0
HaveListMemory capacities parts = All (λ part. length part.entries ≤ slice_index_or capacities part.anchor.0 0) parts

-- one list of this capacity has memory for the entries of each part
abbrev pub HasMemoryForEach : ℕ → List AnchorEntries → Type 0
HasMemoryForEach capacity parts = All (λ part. length part.entries ≤ capacity) parts
