-- the block of a line is the innermost of the open ones
use Rattle.std.proofs.Common.{◌≡◌, ◌∙◌, ◌&&◌, Bool, true, false, List, [], ◌∷◌, ◌++◌, Option, None, Some, ap, if◌then◌else◌, map, refl, subst, sym}
use Rattle.std.specs.Option.{option_map_or}
use Rattle.std.proofs.lemmas.Bool.{true≢false}
use Rattle.dec_text.specs.Lines.{WordLine}
use Rattle.deck_shape.specs.Blocks.{BlockLines, ItemLines, SectionLines, with_row}
use Rattle.deck_shape.specs.LineFaults.{closes, closes_file, is_alone, is_outermost}
use Rattle.deck_shape.specs.LineWords.{head_of, is_row}
use Rattle.deck_shape.specs.OpenBlocks.{NoneCloses, OpenBlock, block_below, innermost, last_line, open_after, open_below, open_below_all, open_blocks}
use Rattle.deck_shape.specs.Reading.{SoFar, after_inner_block, after_line, after_row, after_word, block_of, nothing_read, read_after, rule_at}
use Rattle.deck_words.specs.Tables.{rule_for}
use Rattle.deck_shape.specs.declared.reading.Below.{Below}
use Rattle.deck_shape.specs.declared.reading.Below.TheVariants.{Words, Rows, Enclosed}
use Rattle.deck_words.specs.declared.table.BlockForm.{BlockForm}
use Rattle.deck_words.specs.declared.table.Role.{Role}
use Rattle.deck_words.specs.declared.table.Role.TheVariants.{Value, Rows as HasRows, Encloses, Opens, Begins, BeginsLattice}
use Rattle.deck_words.specs.declared.table.Role.TheVariants.{Closes, Unsupported}
use Rattle.deck_words.specs.declared.table.Rule.{Rule}
use Rattle.deck_shape.proofs.BelowLines.{IsBelow, below_read, closes_rows}

abbrev as_open : BlockLines → OpenBlock
as_open block = record { form = block.form; line = block.line }

-- the open blocks by what the next line may be
abbrev open_by : Below → BlockLines → List BlockLines → List OpenBlock
open_by Words block around = as_open block ∷ map as_open around
open_by Rows block around = as_open block ∷ map as_open around
open_by (Enclosed rows) block around = record { form = rows; line = last_line block.items } ∷ as_open block ∷ map as_open around

-- the open blocks of what is read
abbrev open_of : SoFar → List OpenBlock
open_of so_far = open_by so_far.below so_far.block so_far.around

last_pushed : (items : List ItemLines) (item : ItemLines) → last_line (items ++ item ∷ []) ≡ item.line.number
last_pushed [] item = refl
last_pushed (first ∷ []) item = refl
last_pushed (first ∷ next ∷ items) item = last_pushed (next ∷ items) item

last_kept : (row : WordLine) (items : List ItemLines) → last_line (with_row row items) ≡ last_line items
last_kept row [] = refl
last_kept row (item ∷ []) = refl
last_kept row (item ∷ next ∷ []) = refl
last_kept row (item ∷ next ∷ third ∷ items) = last_kept row (next ∷ third ∷ items)

-- the open blocks are those of what is read, and maybe others that are not asked for any more
pub record AreOpen (so_far : SoFar) (blocks : List OpenBlock) : Type 0 where
  pub below : IsBelow so_far.below
  pub rest : List OpenBlock
  pub is : blocks ≡ open_of so_far ++ rest

-- the open blocks below a word line, by its role
abbrev after_first_open : WordLine → List OpenBlock → Role → List OpenBlock
after_first_open line [] role = []
after_first_open line (inner ∷ others) role = open_after line inner others role

abbrev IsInBlock : Below → Type 0
IsInBlock Words = Unit {0}
IsInBlock Rows = Unit {0}
IsInBlock (Enclosed rows) = ⊥

closing_alone : (below : Below) (around : List BlockLines) (closing : Bool) → IsInBlock below → around ≡ [] → closing ≡ true
    → ((is_outermost below && is_alone around) && closing) ≡ true
closing_alone Words around closing is alone closes = ap (λ os. (is_alone os && closing)) alone ∙ closes
closing_alone Rows around closing is alone closes = ap (λ os. (is_alone os && closing)) alone ∙ closes
closing_alone (Enclosed rows) around closing is alone closes = absurd is

module _ (block : BlockLines) (around variants : List BlockLines) (sections : List SectionLines) (line : WordLine) where
  abbrev at : Below → SoFar
  at below = record { block = block; below = below; around = around; variants = variants; sections = sections }

  abbrev outer : List OpenBlock → List OpenBlock
  outer rest = map as_open around ++ rest

  abbrev Goes : Below → Role → List OpenBlock → Type 0
  Goes below role blocks = (rest : List OpenBlock) × (blocks ≡ open_of (after_word line (at below) role) ++ rest)

  inner_left : (below : Below) (left : List BlockLines) (rest : List OpenBlock)
      → (left ≡ [] → ⊥) → map as_open left ++ rest ≡ open_of (after_inner_block line.number left (at below)) ++ rest
  inner_left below [] rest some = absurd (some refl)
  inner_left below (file ∷ []) rest some = refl
  inner_left below (section ∷ next ∷ others) rest some = refl

  by_words : (role : Role) (rest : List OpenBlock) → (role ≡ Closes → around ≡ [] → ⊥)
      → Goes Words role (open_after line (as_open block) (outer rest) role)
  by_words Value rest some = (rest, refl)
  by_words HasRows rest some = (rest, refl)
  by_words (Encloses rows) rest some = (
    rest,
    ap (λ number. record { form = rows; line = number } ∷ as_open block ∷ outer rest)
        (sym (last_pushed block.items (record { line = line; rows = [] }))),
  )
  by_words (Opens form) rest some = (rest, refl)
  by_words (Begins form) rest some = (as_open block ∷ outer rest, refl)
  by_words BeginsLattice rest some = (as_open block ∷ outer rest, refl)
  by_words Closes rest some = (rest, inner_left Words around rest (some refl))
  by_words Unsupported rest some = (rest, refl)

  by_rows : (role : Role) (rest : List OpenBlock) → (role ≡ Closes → around ≡ [] → ⊥)
      → Goes Rows role (open_after line (as_open block) (outer rest) role)
  by_rows Value rest some = (rest, refl)
  by_rows HasRows rest some = (rest, refl)
  by_rows (Encloses rows) rest some = (
    rest,
    ap (λ number. record { form = rows; line = number } ∷ as_open block ∷ outer rest)
        (sym (last_pushed block.items (record { line = line; rows = [] }))),
  )
  by_rows (Opens form) rest some = (rest, refl)
  by_rows (Begins form) rest some = (as_open block ∷ outer rest, refl)
  by_rows BeginsLattice rest some = (as_open block ∷ outer rest, refl)
  by_rows Closes rest some = (rest, inner_left Rows around rest (some refl))
  by_rows Unsupported rest some = (rest, refl)

  -- a closing word with no other block around it closes the file
  not_last : (below : Below) (rule : Rule) → IsInBlock below → rule_at (at below) line ≡ Some rule → closes_file (at below) line ≡ false
      → rule.role ≡ Closes → around ≡ [] → ⊥
  not_last below rule is has goes_on closing alone =
      true≢false (
      sym (closing_alone below around (option_map_or (λ r. closes r.role) (rule_at (at below) line) false) is alone
      (ap (λ r. option_map_or (λ (k : Rule). closes k.role) r false) has ∙ ap closes closing))
      ∙ goes_on)

  -- a word line, by the rule of its word
  by_rule : (below : Below) (rule : Rule) (rest : List OpenBlock) → IsBelow below → rule_at (at below) line ≡ Some rule
      → closes_file (at below) line ≡ false
      → Goes below rule.role (after_first_open line (open_of (at below) ++ rest) rule.role)
  by_rule Words rule rest is has goes_on = by_words rule.role rest (not_last Words rule tt has goes_on)
  by_rule Rows rule rest is has goes_on = by_rows rule.role rest (not_last Rows rule tt has goes_on)
  by_rule (Enclosed rows) rule rest is has goes_on =
      let closing = closes_rows block around variants sections line rule rows is has in
      subst (λ role. Goes (Enclosed rows) role (after_first_open line (open_of (at (Enclosed rows)) ++ rest) role)) (sym closing) (rest, refl)

-- a row belongs to a word of the innermost block
row_open : (row : WordLine) (block : BlockLines) (around variants : List BlockLines) (sections : List SectionLines) (below : Below)
    → open_by below block around ≡ open_by below (record block { items = with_row row block.items }) around
row_open row block around variants sections Words = refl
row_open row block around variants sections Rows = refl
row_open row block around variants sections (Enclosed rows) =
    ap (λ number. record { form = rows; line = number } ∷ as_open block ∷ map as_open around) (sym (last_kept row block.items))

-- the open blocks below a line that is no row, and whose word has this rule or none
abbrev below_rule : WordLine → List OpenBlock → Option Rule → List OpenBlock
below_rule line blocks rule = option_map_or (λ r. after_first_open line blocks r.role) rule blocks

-- the rule of a line in the innermost open block is its rule
same_rule : (block : BlockLines) (around variants : List BlockLines) (sections : List SectionLines) (below : Below) (line : WordLine)
    (rest : List OpenBlock)
    → open_below (open_by below block around ++ rest) line ≡ below_rule line (open_by below block around ++ rest)
    (rule_at (record { block = block; below = below; around = around; variants = variants; sections = sections }) line)
same_rule block around variants sections Words line rest = refl
same_rule block around variants sections Rows line rest = refl
same_rule block around variants sections (Enclosed rows) line rest = refl

module _ (so_far : SoFar) (line : WordLine) (goes_on : closes_file so_far line ≡ false) where
  after_rule : (rest : List OpenBlock) → IsBelow so_far.below → (rule : Option Rule) → rule_at so_far line ≡ rule
      → AreOpen (option_map_or (λ r. after_word line so_far r.role) rule so_far) (below_rule line (open_of so_far ++ rest) rule)
  after_rule rest below None has = record { below = below; rest = rest; is = refl }
  after_rule rest below (Some rule) has =
      let goes = by_rule so_far.block so_far.around so_far.variants so_far.sections line so_far.below rule rest below has goes_on in
      record {
        below = below_read so_far.block so_far.around so_far.variants so_far.sections line rule so_far.below below has;
        rest = goes.0;
        is = goes.1;
      }

  after_open : (rest : List OpenBlock) → IsBelow so_far.below → (row : Bool) → is_row line ≡ row
      → AreOpen (if row then after_row line so_far else option_map_or (λ r. after_word line so_far r.role) (rule_at so_far line) so_far)
      (below_rule line (open_of so_far ++ rest) (rule_at so_far line))
  after_open rest below true row = record {
    below = below;
    rest = rest;
    is = ap (λ b. below_rule line (open_of so_far ++ rest) (if b then None else rule_for (block_of so_far) (head_of line))) row
        ∙ ap (λ blocks. blocks ++ rest) (row_open line so_far.block so_far.around so_far.variants so_far.sections so_far.below);
  }
  after_open rest below false word = after_rule rest below (rule_at so_far line) refl

  line_open : (blocks : List OpenBlock) → AreOpen so_far blocks → AreOpen (after_line line so_far) (open_below blocks line)
  line_open blocks are =
      subst (AreOpen (after_line line so_far))
      (sym (ap (λ os. open_below os line) are.is
      ∙ same_rule so_far.block so_far.around so_far.variants so_far.sections so_far.below line are.rest))
      (after_open are.rest are.below (is_row line) refl)

lines_open : (so_far : SoFar) (blocks : List OpenBlock) (lines : List WordLine) → NoneCloses so_far lines → AreOpen so_far blocks
    → AreOpen (read_after so_far lines) (open_below_all blocks lines)
lines_open so_far blocks [] none are = are
lines_open so_far blocks (line ∷ lines) none are =
    lines_open (after_line line so_far) (open_below blocks line) lines none.1 (line_open so_far line none.0 blocks are)

innermost_by : (block : BlockLines) (around variants : List BlockLines) (sections : List SectionLines) (rest : List OpenBlock) (below : Below)
    → innermost (open_by below block around ++ rest)
    ≡ Some (block_below (record { block = block; below = below; around = around; variants = variants; sections = sections }))
innermost_by block around variants sections rest Words = refl
innermost_by block around variants sections rest Rows = refl
innermost_by block around variants sections rest (Enclosed rows) = refl

pub innermost_open : (form : BlockForm) (above : List WordLine) → NoneCloses (nothing_read form) above
    → innermost (open_blocks form above) ≡ Some (block_below (read_after (nothing_read form) above))
innermost_open form above none =
    let so_far = read_after (nothing_read form) above in
    let are = lines_open (nothing_read form) (record { form = form; line = 0 } ∷ []) above none (record { below = tt; rest = []; is = refl }) in
    ap innermost are.is ∙ innermost_by so_far.block so_far.around so_far.variants so_far.sections are.rest so_far.below
