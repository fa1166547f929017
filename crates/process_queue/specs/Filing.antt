-- In which rooms the entries of an anchor are. No public contract cites this.
use Rattle.std.specs.Prelude.{◌≡◌, ℕ, ◌≤◌, ◌==◌, Bool, true, false, List, [], ◌∷◌, Option, Some, None, IsSome, if◌then◌else◌, filter_map, length, map, slice_index_or, vec_capacity, ⊤}
use Rattle.std.specs.List.{AllByRecursion}
use Rattle.std.specs.declared.vec.Vec.{Vec}
use Rattle.kmc_base.specs.Entries.{IsRising, codes_of}
use Rattle.process_queue.specs.Renewal.{anchor_in}
use Rattle.kmc_base.specs.declared.entry.Entry.{Entry}
use Rattle.kmc_base.specs.declared.limits.TheConstants.{MAX_SITES}

-- what is in a room
abbrev pub in_room : List (Option Entry) → ℕ → Option Entry
in_room slots room = slice_index_or slots room None

-- the entries in some rooms
abbrev pub entries_in : List (Option Entry) → List ℕ → List Entry
entries_in slots rooms = filter_map (in_room slots) rooms

-- each room has an entry
abbrev pub AreTaken : List (Option Entry) → List ℕ → Type 0
AreTaken slots rooms = AllByRecursion (λ room. IsSome (in_room slots room)) rooms

-- a room is among some
abbrev pub is_in : List ℕ → ℕ → Bool
is_in [] room = false
is_in (first ∷ rest) room = if first == room then true else is_in rest room

-- no room twice
abbrev pub AreDistinct : List ℕ → Type 0
AreDistinct [] = ⊤
AreDistinct (room ∷ rooms) = (is_in rooms room ≡ false) × AreDistinct rooms

-- these rooms have these entries, one each
abbrev pub AreFiled : List (Option Entry) → List ℕ → List Entry → Type 0
AreFiled slots rooms entries = map (in_room slots) rooms ≡ map Some entries

-- the list of rooms of each site
abbrev pub rooms_of : {Z : Type 0} → List (Vec ℕ Z) → List (List ℕ)
rooms_of lists = map (λ list. list.items) lists

-- how many rooms the list of each site has memory for
abbrev pub capacities_of : {Z : Type 0} → List (Vec ℕ Z) → List ℕ
capacities_of lists = map (λ list. vec_capacity list) lists

-- the rooms of a site
abbrev pub rooms_at : List (List ℕ) → ℕ → List ℕ
rooms_at lists site = slice_index_or lists site []

-- a site has these rooms: each has an entry, their codes rise, and they have that anchor
pub record IsOfSite (slots : List (Option Entry)) (site : ℕ) (rooms : List ℕ) : Type 0 where
  pub taken : AreTaken slots rooms
  pub rising : IsRising (codes_of (entries_in slots rooms))
  pub anchored : AllByRecursion (λ e. anchor_in e.code ≡ site) (entries_in slots rooms)

-- the lists of rooms of all sites, of which each room with an entry is in one
pub record IsIndexed (slots : List (Option Entry)) (lists : List (List ℕ)) : Type 0 where
  pub few_sites : length lists ≤ MAX_SITES
  pub sites : (site : ℕ) → IsOfSite slots site (rooms_at lists site)
  pub complete : (room : ℕ) (e : Entry) → in_room slots room ≡ Some e → is_in (rooms_at lists (anchor_in e.code)) room ≡ true

-- what filing the entries of an anchor again makes of the rooms: those of the new list have the entries, those of the
-- old list alone have none, those of the new list alone had none, and all others have what they had
pub record IsRefiled (old new : List (Option Entry)) (before after : List ℕ) (entries : List Entry) : Type 0 where
  pub filed : AreFiled new after entries
  pub gone : (room : ℕ) → is_in before room ≡ true → is_in after room ≡ false → in_room new room ≡ None
  pub fresh : (room : ℕ) → is_in before room ≡ false → is_in after room ≡ true → in_room old room ≡ None
  pub others : (room : ℕ) → is_in before room ≡ false → is_in after room ≡ false → in_room new room ≡ in_room old room
