-- The ends of rows that join sites. Not part of what is promised: no public contract cites this.
use Rattle.std.specs.Prelude.{ℕ, ◌≡◌, List, Option, false}
use Rattle.std.specs.List.{AllByRecursion}
use Rattle.lattice_deck.specs.Joins.{has_bad_end}
use Rattle.lattice_deck.specs.declared.joins.JoinRow.{JoinRow}

-- the ends of a row are sites of the cell
pub record HasEnds (sites : Option ℕ) (row : JoinRow) : Type 0 where
  pub sound : has_bad_end sites row ≡ false

-- so are those of all rows
abbrev pub AreEnds : Option ℕ → List JoinRow → Type 0
AreEnds sites rows = AllByRecursion (HasEnds sites) rows
