-- what the next line may be: enclosed rows have a closing word alone
use Rattle.std.proofs.Common.{◌≡◌, List, [], ◌∷◌, Some, refl, subst, sym}
use Rattle.dec_text.specs.Lines.{WordLine}
use Rattle.deck_shape.specs.Blocks.{BlockLines, SectionLines}
use Rattle.deck_shape.specs.LineWords.{head_of}
use Rattle.deck_shape.specs.Reading.{SoFar, after_closing, after_inner_block, after_word, block_of, rule_at}
use Rattle.deck_shape.specs.declared.reading.Below.{Below}
use Rattle.deck_shape.specs.declared.reading.Below.TheVariants.{Words, Rows, Enclosed}
use Rattle.deck_words.specs.declared.table.BlockForm.{BlockForm}
use Rattle.deck_words.specs.declared.table.Role.{Role}
use Rattle.deck_words.specs.declared.table.Role.TheVariants.{Value, Rows as HasRows, Encloses, Opens, Begins, BeginsLattice}
use Rattle.deck_words.specs.declared.table.Role.TheVariants.{Closes, Unsupported}
use Rattle.deck_words.specs.declared.table.Rule.{Rule}
use Rattle.deck_shape.proofs.Depths.{ClosesAlone, IsRole, all_roles}
use Rattle.deck_shape.proofs.ReadBlocks.{role_of, rule_in}

abbrev pub IsBelow : Below → Type 0
IsBelow Words = Unit {0}
IsBelow Rows = Unit {0}
IsBelow (Enclosed rows) = ClosesAlone rows

module _ (block : BlockLines) (around variants : List BlockLines) (sections : List SectionLines) (line : WordLine) (rule : Rule) where
  abbrev pub at : Below → SoFar
  at below = record { block = block; below = below; around = around; variants = variants; sections = sections }

  -- the word of enclosed rows
  pub closes_rows : (rows : BlockForm) → ClosesAlone rows → rule_at (at (Enclosed rows)) line ≡ Some rule → rule.role ≡ Closes
  closes_rows rows alone has = role_of (λ r. r.role ≡ Closes) rows (head_of line) rule alone (rule_in (at (Enclosed rows)) line rule rows refl has)

  -- the role of a word outside enclosed rows
  pub role_in_block : (below : Below) → block_of (at below) ≡ block.form → rule_at (at below) line ≡ Some rule → IsRole rule.role
  role_in_block below same has =
      role_of (λ r. IsRole r.role) block.form (head_of line) rule (all_roles block.form) (rule_in (at below) line rule block.form same has)

  inner_below : (below : Below) (inner : List BlockLines) → IsBelow below → IsBelow (after_inner_block line.number inner (at below)).below
  inner_below below [] is = is
  inner_below below (file ∷ []) is = tt
  inner_below below (section ∷ outer ∷ others) is = tt

  closing_below : (below : Below) → IsBelow below → IsBelow (after_closing line (at below) below).below
  closing_below (Enclosed rows) is = tt
  closing_below Words is = inner_below Words around tt
  closing_below Rows is = inner_below Rows around tt

  by_role : (below : Below) → IsBelow below → (role : Role) → IsRole role → IsBelow (after_word line (at below) role).below
  by_role below is Value role = tt
  by_role below is HasRows role = tt
  by_role below is (Encloses rows) role = role
  by_role below is (Opens form) role = tt
  by_role below is (Begins form) role = tt
  by_role below is BeginsLattice role = tt
  by_role below is Closes role = closing_below below is
  by_role below is Unsupported role = is

  pub below_read : (below : Below) → IsBelow below → rule_at (at below) line ≡ Some rule → IsBelow (after_word line (at below) rule.role).below
  below_read Words is has = by_role Words is rule.role (role_in_block Words refl has)
  below_read Rows is has = by_role Rows is rule.role (role_in_block Rows refl has)
  below_read (Enclosed rows) is has = subst (λ r. IsBelow (after_word line (at (Enclosed rows)) r).below) (sym (closes_rows rows is has)) tt
