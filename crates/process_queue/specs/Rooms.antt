-- What contracts within the crate see of rooms for entries. No public contract cites this.
use Rattle.std.specs.Prelude.{◌≡◌, ℕ, ◌+◌, ◌≤◌, List}
use Rattle.process_queue.specs.ByCode.{by_code}
use Rattle.kmc_base.specs.declared.entry.Entry.{Entry}
use Rattle.slab.specs.Slab.{HasRoomFor, Slab, slab_len, values}

-- the slab, and how many nodes the tree over its rooms has
pub record RoomList : Type 0 where
  pub slab : Slab Entry
  pub nodes : ℕ

-- so many more entries fit with no allocation
pub record HasRoom (rooms : RoomList) (more : ℕ) : Type 0 where
  pub slab : HasRoomFor rooms.slab more
  pub nodes : rooms.slab.capacity ≤ rooms.nodes

-- there are at most so many entries more, in the same memory
pub record GrewBy (old new : RoomList) (count : ℕ) : Type 0 where
  pub len : slab_len new.slab ≤ slab_len old.slab + count
  pub capacity : new.slab.capacity ≡ old.slab.capacity
  pub nodes : new.nodes ≡ old.nodes

-- the entries of a slab in rising order of their codes
abbrev pub entries_of : Slab Entry → List Entry
entries_of slab = by_code (λ e. e.code) (values slab)
