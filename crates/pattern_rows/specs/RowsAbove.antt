-- What is kept of the rows above a row, to look up its entity. Not part of what is promised: no public contract cites this.
use Rattle.std.specs.Prelude.{ℕ, ◌≡◌, ◌||◌, Bool, false, not, List, Option, None, Some}
use Rattle.std.specs.List.{list_any}
use Rattle.std.specs.BTreeMap as tree
use Rattle.std.specs.BTreeSet as sorted
use Rattle.std.specs.Ordering.{nat_cmp, ordering_then}
use Rattle.std.specs.declared.cmp.Ordering.{Ordering}
use Rattle.dec_text.specs.Spans.{bytes_at}
use Rattle.deck_words.specs.Tables.{same_word}
use Rattle.pattern_rows.specs.States.{EntityWords, StateWords, wants_dentate, wants_other_species}
use Rattle.pattern_rows.specs.declared.rows_above.RowsAbove.{RowsAbove}
use Rattle.pattern_rows.specs.declared.rows_above.SpeciesSeen.{SpeciesSeen}

-- the order of entities with their dentates
abbrev pub dentate_cmp : ℕ × ℕ → ℕ × ℕ → Ordering
dentate_cmp a b = ordering_then (nat_cmp a.0 b.0) (nat_cmp a.1 b.1)

-- some species that was seen is another one
abbrev pub is_another : List ℕ → Option SpeciesSeen → List ℕ → Bool
is_another text None species = false
is_another text (Some seen) species = seen.are_two || not (same_word (bytes_at text seen.first) species)

-- the dentates that the rows want are known, and which entities are of another species
pub record IsIndexOf (text : List ℕ) (rows : List StateWords) (above : RowsAbove) : Type 0 where
  pub dentates : (e : EntityWords) → sorted.contains dentate_cmp above.dentates (e.entity, e.dentate) ≡ list_any (wants_dentate e) rows
  pub species : (e : EntityWords) → is_another text (tree.get nat_cmp above.species e.entity) e.species.word.bytes
      ≡ list_any (wants_other_species e) rows
