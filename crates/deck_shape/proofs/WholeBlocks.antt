-- The blocks of a file that is read without faults of form are whole.
use Rattle.std.proofs.Common.{◌≡◌, ℕ, ◌&&◌, Bool, true, false, List, [], ◌∷◌, ◌++◌, None, Some, Ok, ap, sym, subst, ◌∙◌, refl}
use Rattle.std.proofs.Common.{arith, unwrap_or}
use Rattle.std.specs.List.{AllByRecursion, list_any}
use Rattle.std.proofs.lemmas.Bool.{false≢true}
use Rattle.dec_text.specs.Lines.{Run, WordLine, word_lines}
use Rattle.deck_shape.specs.Blocks.{BlockLines, FileLines, ItemLines, SectionLines, with_row}
use Rattle.deck_shape.specs.LineFaults.{closes, fault_at, file_of_text, is_missing, line_count, misses_word, variants_within}
use Rattle.deck_shape.specs.LineWords.{first_of, head_of}
use Rattle.deck_shape.specs.Reading.{SoFar, after_closing, after_inner_block, after_word, argument_of, block_of, closed, lattice_block}
use Rattle.deck_shape.specs.Reading.{nothing_read, opened, rule_at}
use Rattle.deck_shape.specs.WholeBlocks.{IsKnown, IsOnce, IsOpenedIn, IsWholeFile, IsWholeSection, IsWholeVariant, IsWholeWith}
use Rattle.deck_words.specs.Tables.{rule_for, rules_of}
use Rattle.deck_shape.specs.declared.reading.Below.{Below}
use Rattle.deck_shape.specs.declared.reading.Below.TheVariants.{Words, Rows, Enclosed}
use Rattle.deck_words.specs.declared.keyword.Keyword.{Keyword}
use Rattle.deck_words.specs.declared.table.BlockForm.{BlockForm}
use Rattle.deck_words.specs.declared.table.Role.{Role}
use Rattle.deck_words.specs.declared.table.Role.TheVariants.{Value, Rows as HasRows, Encloses, Opens, Begins, BeginsLattice}
use Rattle.deck_words.specs.declared.table.Role.TheVariants.{Closes, Unsupported}
use Rattle.deck_words.specs.declared.table.Rule.{Rule}
use Rattle.deck_shape.proofs.BelowLines.{IsBelow, closes_rows}
use Rattle.deck_shape.proofs.Depths.{IsFlat, IsRole, IsShallow, OpensFlat, OpensNone, all_roles}
use Rattle.deck_shape.proofs.OnceWords.{once_pushed, once_with_row}
use Rattle.deck_shape.proofs.ReadBlocks.{ClosesFile, outermost, read_has, role_of, rule_in}
use Rattle.deck_shape.proofs.WordFaults.{allowed, misses_none, not_repeated}

-- the words of an open block
pub record IsFull (form : BlockForm) (items : List ItemLines) : Type 0 where
  pub known : AllByRecursion (IsKnown form) items
  pub once : (keyword : Keyword) → IsOnce form items keyword

-- an open block with the open blocks around it, and what is closed within them
abbrev pub IsNest : BlockForm → Run → List BlockLines → List BlockLines → List SectionLines → Type 0
IsNest form word [] variants sections = (variants ≡ []) × AllByRecursion (IsWholeSection form) sections
IsNest form word (file ∷ []) variants sections =
    IsOpenedIn file.form word form × IsShallow form × IsFull file.form file.items
    × AllByRecursion (IsWholeVariant form) variants × AllByRecursion (IsWholeSection file.form) sections
IsNest form word (section ∷ file ∷ []) variants sections =
    IsOpenedIn section.form word form × IsFlat form
    × IsOpenedIn file.form section.word section.form × IsShallow section.form × IsFull section.form section.items
    × IsFull file.form file.items
    × AllByRecursion (IsWholeVariant section.form) variants × AllByRecursion (IsWholeSection file.form) sections
IsNest form word (a ∷ b ∷ c ∷ others) variants sections = ⊥

-- what is read so far of a file
pub record IsRead (so_far : SoFar) : Type 0 where
  pub full : IsFull so_far.block.form so_far.block.items
  pub below : IsBelow so_far.below
  pub nest : IsNest so_far.block.form so_far.block.word so_far.around so_far.variants so_far.sections

all_pushed : {X : Type 0} (P : X → Type 0) (xs : List X) (x : X) → AllByRecursion P xs → P x → AllByRecursion P (xs ++ x ∷ [])
all_pushed P [] x all here = (here, tt)
all_pushed P (y ∷ ys) x all here = (all.0, all_pushed P ys x all.1 here)

nothing_full : (form : BlockForm) → IsFull form []
nothing_full form = record { known = tt; once = λ keyword rule has once. omega arith }

row_known : (form : BlockForm) (row : WordLine) (items : List ItemLines) → AllByRecursion (IsKnown form) items
    → AllByRecursion (IsKnown form) (with_row row items)
row_known form row [] all = tt
row_known form row (item ∷ []) all = (record { rule = all.0.rule; has_rule = all.0.has_rule; is_allowed = all.0.is_allowed }, tt)
row_known form row (item ∷ next ∷ items) all = (all.0, row_known form row (next ∷ items) all.1)

row_full : (form : BlockForm) (row : WordLine) (items : List ItemLines) → IsFull form items → IsFull form (with_row row items)
row_full form row items full = record { known = row_known form row items full.known; once = once_with_row form row items full.once }

and_rest : (a b : Bool) → a ≡ true → (a && b) ≡ false → b ≡ false
and_rest true b is none = none
and_rest false b is none = absurd (false≢true is)

-- a block is whole where its closing word stands
whole : (so_far : SoFar) (line : WordLine) (rule : Rule) → IsFull so_far.block.form so_far.block.items → rule_at so_far line ≡ Some rule
    → fault_at so_far line ≡ None → block_of so_far ≡ so_far.block.form → closes rule.role ≡ true
    → IsWholeWith (variants_within so_far.around so_far.variants) (closed line.number so_far.block)
whole so_far line rule full is none same closing =
    let variants = variants_within so_far.around so_far.variants in
    let items = so_far.block.items in
    record {
      known = full.known;
      once = full.once;
      none_missing = and_rest (closes rule.role) (list_any (is_missing variants items) (rules_of so_far.block.form)) closing
          (sym (ap (λ form. misses_word form variants items rule) same) ∙ misses_none so_far line rule is none);
    }

-- the innermost block is closed
module _ (block : BlockLines) (variants : List BlockLines) (sections : List SectionLines) (line : WordLine) (rule : Rule)
    (closing : closes rule.role ≡ true) where
  abbrev at : Below → List BlockLines → SoFar
  at below around = record { block = block; below = below; around = around; variants = variants; sections = sections }

  inner_closed : (below : Below) (around : List BlockLines) → block_of (at below around) ≡ block.form → IsRead (at below around)
      → rule_at (at below around) line ≡ Some rule → fault_at (at below around) line ≡ None
      → IsRead (after_inner_block line.number around (at below around))
  inner_closed below [] same read is none = read
  inner_closed below (file ∷ []) same read is none = record {
    full = read.nest.2;
    below = tt;
    nest = (
      refl,
      all_pushed (IsWholeSection file.form) sections _ read.nest.4 (record {
        opened = read.nest.0;
        whole = whole (at below (file ∷ [])) line rule read.full is none same closing;
        variants = read.nest.3;
      }),
    );
  }
  inner_closed below (section ∷ file ∷ []) same read is none = record {
    full = read.nest.4;
    below = tt;
    nest = (
      read.nest.2,
      read.nest.3,
      read.nest.5,
      all_pushed (IsWholeVariant section.form) variants _ read.nest.6 (record {
        opened = read.nest.0;
        whole = whole (at below (section ∷ file ∷ [])) line rule read.full is none same closing;
      }),
      read.nest.7,
    );
  }
  inner_closed below (a ∷ b ∷ c ∷ others) same read is none = absurd read.nest

  closing_read : (below : Below) (around : List BlockLines) → IsRead (at below around)
      → rule_at (at below around) line ≡ Some rule → fault_at (at below around) line ≡ None
      → IsRead (after_closing line (at below around) below)
  closing_read (Enclosed rows) around read is none = record { full = read.full; below = tt; nest = read.nest }
  closing_read Words around read is none = inner_closed Words around refl read is none
  closing_read Rows around read is none = inner_closed Rows around refl read is none

-- a block is opened within the innermost one
opened_nest : (outer : BlockLines) (line : WordLine) (form : BlockForm) (around variants : List BlockLines) (sections : List SectionLines)
    → IsFull outer.form outer.items → IsOpenedIn outer.form (first_of line.words) form → IsShallow form
    → (IsShallow outer.form → IsFlat form) → (IsFlat outer.form → ⊥)
    → IsNest outer.form outer.word around variants sections → IsNest form (first_of line.words) (outer ∷ around) variants sections
opened_nest outer line form [] variants sections full opened shallow flat none nest =
    (opened, shallow, full, subst (AllByRecursion (IsWholeVariant form)) (sym nest.0) tt, nest.1)
opened_nest outer line form (file ∷ []) variants sections full opened shallow flat none nest =
    (opened, flat nest.1, nest.0, nest.1, full, nest.2, nest.3, nest.4)
opened_nest outer line form (section ∷ file ∷ []) variants sections full opened shallow flat none nest = absurd (none nest.1)
opened_nest outer line form (a ∷ b ∷ c ∷ others) variants sections full opened shallow flat none nest = absurd nest

-- a word line without faults is read, by its role
module _ (so_far : SoFar) (read : IsRead so_far) (line : WordLine) (rule : Rule) (is : rule_at so_far line ≡ Some rule)
    (none : fault_at so_far line ≡ None) where
  module _ (found : rule_for so_far.block.form (head_of line) ≡ Some rule) where
    item_full : IsFull so_far.block.form (so_far.block.items ++ record { line = line; rows = [] } ∷ [])
    item_full = record {
      known = all_pushed (IsKnown so_far.block.form) so_far.block.items _ read.full.known
          (record { rule = rule; has_rule = found; is_allowed = allowed so_far line rule is none });
      once = once_pushed so_far.block.form so_far.block.items (record { line = line; rows = [] }) rule found
          (not_repeated so_far line rule is none) read.full.once;
    }

    opens_flat : (form : BlockForm) → rule.role ≡ Opens form → IsShallow so_far.block.form → IsFlat form
    opens_flat form role shallow =
        subst OpensFlat role (role_of (λ r. OpensFlat r.role) so_far.block.form (head_of line) rule shallow found)

    opens_none : (form : BlockForm) → rule.role ≡ Opens form → IsFlat so_far.block.form → ⊥
    opens_none form role flat =
        subst OpensNone role (role_of (λ r. OpensNone r.role) so_far.block.form (head_of line) rule flat found)

    by_role : (role : Role) → rule.role ≡ role → IsRole role → IsRead (after_word line so_far role)
    by_role Value same role = record { full = item_full; below = tt; nest = read.nest }
    by_role HasRows same role = record { full = item_full; below = tt; nest = read.nest }
    by_role (Encloses rows) same role = record { full = item_full; below = role; nest = read.nest }
    by_role (Opens form) same role = record {
      full = nothing_full form;
      below = tt;
      nest = opened_nest so_far.block line form so_far.around so_far.variants so_far.sections read.full
          (record { rule = rule; has_rule = found; opens = same }) role (opens_flat form same) (opens_none form same) read.nest;
    }
    by_role (Begins form) same role = record { full = nothing_full form; below = tt; nest = (refl, tt) }
    by_role BeginsLattice same role = record {
      full = nothing_full (unwrap_or (lattice_block (argument_of line)) so_far.block.form);
      below = tt;
      nest = (refl, tt);
    }
    by_role Closes same role =
        closing_read so_far.block so_far.variants so_far.sections line rule (ap closes same) so_far.below so_far.around read is none
    by_role Unsupported same role = read

  in_block : block_of so_far ≡ so_far.block.form → IsRead (after_word line so_far rule.role)
  in_block same =
      let found : rule_for so_far.block.form (head_of line) ≡ Some rule = rule_in so_far line rule so_far.block.form same is in
      by_role found rule.role refl (role_of (λ r. IsRole r.role) so_far.block.form (head_of line) rule (all_roles so_far.block.form) found)

module _ (block : BlockLines) (around variants : List BlockLines) (sections : List SectionLines) (line : WordLine) (rule : Rule) where
  abbrev where_below : Below → SoFar
  where_below below = record { block = block; below = below; around = around; variants = variants; sections = sections }

  word_read : (below : Below) → IsRead (where_below below) → rule_at (where_below below) line ≡ Some rule
      → fault_at (where_below below) line ≡ None → IsRead (after_word line (where_below below) rule.role)
  word_read Words read is none = in_block (where_below Words) read line rule is none refl
  word_read Rows read is none = in_block (where_below Rows) read line rule is none refl
  word_read (Enclosed rows) read is none =
      let role = closes_rows block around variants sections line rule rows read.below is in
      subst (λ r. IsRead (after_word line (where_below (Enclosed rows)) r)) (sym role)
      (record { full = read.full; below = tt; nest = read.nest })

-- the file is whole where its closing word stands
file_whole : (so_far : SoFar) (line : WordLine) (rule : Rule) → IsRead so_far → ClosesFile so_far line rule → fault_at so_far line ≡ None
    → IsWholeFile (record { block = closed line.number so_far.block; sections = so_far.sections })
file_whole so_far line rule read closes none = record {
  block = subst (λ around. IsWholeWith (variants_within around so_far.variants) (closed line.number so_far.block)) closes.alone
      (whole so_far line rule read.full closes.has_rule none (outermost so_far.below so_far.block.form closes.outside) closes.closing);
  sections = (subst (λ around. IsNest so_far.block.form so_far.block.word around so_far.variants so_far.sections) closes.alone read.nest).1;
}

-- the blocks of a file are whole
pub whole_file : (form : BlockForm) (text : List ℕ) (file : FileLines) → file_of_text form text ≡ Ok file → IsWholeFile file
whole_file form text file is =
    read_has (λ so_far lines. IsRead so_far) IsWholeFile
    (λ so_far row lines read. record {
      full = row_full so_far.block.form row so_far.block.items read.full;
      below = read.below;
      nest = read.nest;
    })
    (λ so_far line lines read. read)
    (λ so_far line lines rule read is none.
    word_read so_far.block so_far.around so_far.variants so_far.sections line rule so_far.below read is none)
    (λ so_far line lines rule read closes none. file_whole so_far line rule read closes none)
    (nothing_read form) [] (word_lines text) (line_count text) file
    (record { full = nothing_full form; below = tt; nest = (refl, tt) }) is
