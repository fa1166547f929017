-- The blocks that are open below some lines of a file: a word that opens a block opens it within those that are open
-- above it, and a closing word closes the innermost of them.
use Rattle.std.specs.Prelude.{◌≡◌, ℕ, false, List, [], ◌∷◌, Option, None, Some, if◌then◌else◌, unwrap_or}
use Rattle.std.specs.Option.{option_map_or}
use Rattle.dec_text.specs.Lines.{WordLine}
use Rattle.deck_shape.specs.Blocks.{BlockLines, ItemLines}
use Rattle.deck_shape.specs.LineFaults.{closes_file}
use Rattle.deck_shape.specs.LineWords.{head_of, is_row}
use Rattle.deck_shape.specs.Reading.{SoFar, after_line, argument_of, block_of, lattice_block}
use Rattle.deck_words.specs.Tables.{rule_for}
use Rattle.deck_shape.specs.declared.reading.Below.{Below}
use Rattle.deck_shape.specs.declared.reading.Below.TheVariants.{Words, Rows, Enclosed}
use Rattle.deck_words.specs.declared.table.BlockForm.{BlockForm}
use Rattle.deck_words.specs.declared.table.Role.{Role}
use Rattle.deck_words.specs.declared.table.Role.TheVariants.{Value, Rows as HasRows, Encloses, Opens, Begins, BeginsLattice}
use Rattle.deck_words.specs.declared.table.Role.TheVariants.{Closes, Unsupported}
use Rattle.deck_words.specs.declared.table.Rule.{Rule}

-- an open block, and the number of the line that opened it; 0 for a file as a whole
pub record OpenBlock : Type 0 where
  pub form : BlockForm
  pub line : ℕ

-- a block that a line opens
abbrev pub opened_on : WordLine → BlockForm → OpenBlock
opened_on line form = record { form = form; line = line.number }

-- the open blocks below a word line in the innermost of those above it, by what its word does
abbrev pub open_after : WordLine → OpenBlock → List OpenBlock → Role → List OpenBlock
open_after line inner others Value = inner ∷ others
open_after line inner others HasRows = inner ∷ others
open_after line inner others (Encloses form) = opened_on line form ∷ inner ∷ others
open_after line inner others (Opens form) = opened_on line form ∷ inner ∷ others
open_after line inner others (Begins form) = opened_on line form ∷ inner ∷ others
open_after line inner others BeginsLattice =
    opened_on line (unwrap_or (lattice_block (argument_of line)) inner.form) ∷ inner ∷ others
open_after line inner others Closes = others
open_after line inner others Unsupported = inner ∷ others

-- the rule of a word line in a block
abbrev pub rule_within : BlockForm → WordLine → Option Rule
rule_within form line = if is_row line then None else rule_for form (head_of line)

-- the open blocks below one line, by those above it, the innermost first
abbrev pub open_below : List OpenBlock → WordLine → List OpenBlock
open_below [] line = []
open_below (inner ∷ others) line =
    option_map_or (λ rule. open_after line inner others rule.role) (rule_within inner.form line) (inner ∷ others)

-- the open blocks below some lines, by those above them
abbrev pub open_below_all : List OpenBlock → List WordLine → List OpenBlock
open_below_all blocks [] = blocks
open_below_all blocks (line ∷ lines) = open_below_all (open_below blocks line) lines

-- the open blocks below the first lines of a file, which is a block of a form before its first line
abbrev pub open_blocks : BlockForm → List WordLine → List OpenBlock
open_blocks form above = open_below_all (record { form = form; line = 0 } ∷ []) above

-- the innermost of some open blocks
abbrev pub innermost : List OpenBlock → Option OpenBlock
innermost [] = None
innermost (inner ∷ others) = Some inner

-- none of some lines closes the file
abbrev pub NoneCloses : SoFar → List WordLine → Type 0
NoneCloses so_far [] = Unit {0}
NoneCloses so_far (line ∷ lines) = (closes_file so_far line ≡ false) × NoneCloses (after_line line so_far) lines

-- the number of the line of the last of some words
abbrev pub last_line : List ItemLines → ℕ
last_line [] = 0
last_line (item ∷ []) = item.line.number
last_line (item ∷ next ∷ items) = last_line (next ∷ items)

-- the line that opened the block of the next line: the last word's where it has enclosed rows
abbrev pub opening_line : Below → BlockLines → ℕ
opening_line Words block = block.line
opening_line Rows block = block.line
opening_line (Enclosed rows) block = last_line block.items

-- the block of the next line, by what is read above it
abbrev pub block_below : SoFar → OpenBlock
block_below so_far = record { form = block_of so_far; line = opening_line so_far.below so_far.block }
