-- Which entries there are after those of some anchors are renewed.
use Rattle.std.specs.Prelude.{◌≡◌, ◌≢◌, ℕ, ◌/◌, ◌%◌, ◌^◌, ◌<◌, ◌==◌, Bool, not, List, ◌++◌, Option, map, filter}
use Rattle.std.specs.List.{All, AllPairs, flat_map, list_any}
use Rattle.process_queue.specs.ByCode.{by_code}
use Rattle.kmc_base.specs.Entries.{IsRising, chosen, codes_of}
use Rattle.process_queue.specs.declared.part.AnchorEntries.{AnchorEntries}
use Rattle.kmc_base.specs.declared.entry.Entry.{Entry}

-- the anchor that a code has, by the number of its site
abbrev pub anchor_in : ℕ → ℕ
anchor_in code = code / 2 ^ 35 % 2 ^ 20

-- the anchors of some parts
abbrev pub anchors_of : List AnchorEntries → List ℕ
anchors_of parts = map (λ part. part.anchor.0) parts

-- the anchors differ, and each is a site of a lattice of so many
pub record AreAnchors (sites : ℕ) (anchors : List ℕ) : Type 0 where
  pub differ : AllPairs (λ a b. a ≢ b) anchors
  pub within : All (λ a. a < sites) anchors

-- the codes of a part rise, and each has its anchor
pub record IsPart (part : AnchorEntries) : Type 0 where
  pub rising : IsRising (codes_of part.entries)
  pub anchored : All (λ e. anchor_in e.code ≡ part.anchor.0) part.entries

-- the anchor of a code is among these
abbrev pub is_at_one_of : List ℕ → ℕ → Bool
is_at_one_of anchors code = list_any (λ anchor. anchor_in code == anchor) anchors

-- The entries after those of some anchors are renewed, in rising order of their codes. Entries of other anchors stay; those
-- of these anchors are what their parts give, where an instance that was there with the same rate, and was not the one
-- fired, keeps its entry.
unfoldable pub renewed_at : List AnchorEntries → Option ℕ → List Entry → List Entry
renewed_at parts fired old =
    by_code (λ e. e.code)
    (filter (λ e. not (is_at_one_of (anchors_of parts) e.code)) old
    ++ flat_map (λ part. map (chosen old fired) part.entries) parts)
