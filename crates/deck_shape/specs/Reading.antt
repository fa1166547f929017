-- Reading a file line by line.
use Rattle.std.specs.Prelude.{ℕ, List, [], ◌∷◌, ◌++◌, Option, None, Some, codes, if◌then◌else◌, unwrap_or}
use Rattle.std.specs.Option.{option_map_or}
use Rattle.dec_text.specs.Lines.{WordLine, run}
use Rattle.kmc_base.specs.declared.ids.FileId.{FileId}
use Rattle.kmc_base.specs.declared.ids.FileId.TheVariants.{Simulation as SimulationText, Lattice as LatticeText}
use Rattle.kmc_base.specs.declared.ids.FileId.TheVariants.{Energetics as EnergeticsText, Mechanism as MechanismText, State as StateText}
use Rattle.deck_shape.specs.Blocks.{BlockLines, SectionLines, with_row}
use Rattle.deck_shape.specs.LineWords.{arguments_of, first_of, head_of, is_row}
use Rattle.deck_words.specs.Tables.{rule_for, same_word}
use Rattle.deck_shape.specs.declared.reading.Below.{Below}
use Rattle.deck_shape.specs.declared.reading.Below.TheVariants.{Words, Rows, Enclosed}
use Rattle.deck_words.specs.declared.table.BlockForm.{BlockForm}
use Rattle.deck_words.specs.declared.table.BlockForm.TheVariants.{Simulation, LatticeFile, DefaultChoice, PeriodicCell, Explicit}
use Rattle.deck_words.specs.declared.table.BlockForm.TheVariants.{EnergeticsFile, MechanismFile, StateFile}
use Rattle.deck_words.specs.declared.table.Role.{Role}
use Rattle.deck_words.specs.declared.table.Role.TheVariants.{Value, Rows as HasRows, Encloses, Opens, Begins, BeginsLattice}
use Rattle.deck_words.specs.declared.table.Role.TheVariants.{Closes, Unsupported}
use Rattle.deck_words.specs.declared.table.Rule.{Rule}

-- What has been read of a file after some of its lines: the innermost block that is open, what the next line may be, the
-- open blocks around it, the innermost first, the closed variants of the open section, and the closed sections.
pub record SoFar : Type 0 where
  pub block : BlockLines
  pub below : Below
  pub around : List BlockLines
  pub variants : List BlockLines
  pub sections : List SectionLines

-- the block that a file is before its first line
abbrev pub first_block : FileId → BlockForm
first_block SimulationText = Simulation
first_block LatticeText = LatticeFile
first_block EnergeticsText = EnergeticsFile
first_block MechanismText = MechanismFile
first_block StateText = StateFile

-- a file of which one block is open and nothing else is read
abbrev pub only_open : BlockLines → SoFar
only_open block = record { block = block; below = Words; around = []; variants = []; sections = [] }

-- nothing has been read yet
abbrev pub nothing_read : BlockForm → SoFar
nothing_read form =
    only_open (record { form = form; word = run 0 []; line = 0; end_line = 0; name = run 0 []; items = [] })

-- the block of a line below: that of enclosed rows, or the file's
abbrev pub form_below : Below → BlockForm → BlockForm
form_below Words form = form
form_below Rows form = form
form_below (Enclosed rows) form = rows

-- the block of the next line
abbrev pub block_of : SoFar → BlockForm
block_of so_far = form_below so_far.below so_far.block.form

-- the rule of a word line in its block
abbrev pub rule_at : SoFar → WordLine → Option Rule
rule_at so_far line = if is_row line then None else rule_for (block_of so_far) (head_of line)

-- the lattice block that an argument names
abbrev pub lattice_block : List ℕ → Option BlockForm
lattice_block word =
    if same_word (codes "default_choice") word
    then Some DefaultChoice
    else
    (if same_word (codes "periodic_cell") word
    then Some PeriodicCell
    else (if same_word (codes "explicit") word then Some Explicit else None))

-- the first argument of a line
abbrev pub argument_of : WordLine → List ℕ
argument_of line = (first_of (arguments_of line)).bytes

-- a block that a word line opens
abbrev pub opened : WordLine → BlockForm → BlockLines
opened line form = record {
  form = form;
  word = first_of line.words;
  line = line.number;
  end_line = 0;
  name = first_of (arguments_of line);
  items = [];
}

-- a block that is closed on a line
abbrev pub closed : ℕ → BlockLines → BlockLines
closed line block = record block { end_line = line }

-- one word line more, and what may be below it
abbrev pub with_item : WordLine → Below → SoFar → SoFar
with_item line below so_far = record so_far {
  block = record so_far.block { items = so_far.block.items ++ record { line = line; rows = [] } ∷ [] };
  below = below;
}

-- the innermost block is closed, a section of the file around it
abbrev pub section_closed : ℕ → BlockLines → SoFar → SoFar
section_closed line file so_far = record {
  block = file;
  below = Words;
  around = [];
  variants = [];
  sections = so_far.sections ++ record { block = closed line so_far.block; variants = so_far.variants } ∷ [];
}

-- the innermost block is closed, a variant of the section around it; the blocks around that section stay open
abbrev pub variant_closed : ℕ → BlockLines → List BlockLines → SoFar → SoFar
variant_closed line section others so_far = record so_far {
  block = section;
  below = Words;
  around = others;
  variants = so_far.variants ++ closed line so_far.block ∷ [];
}

-- the innermost block is closed, by the open blocks around it; none is around the block of the file, whose closing is
-- not asked for here
abbrev pub after_inner_block : ℕ → List BlockLines → SoFar → SoFar
after_inner_block line [] so_far = so_far
after_inner_block line (file ∷ []) so_far = section_closed line file so_far
after_inner_block line (section ∷ outer ∷ others) so_far = variant_closed line section (outer ∷ others) so_far

-- the closing word of enclosed rows, or of the innermost block
abbrev pub after_closing : WordLine → SoFar → Below → SoFar
after_closing line so_far (Enclosed rows) = record so_far { below = Words }
after_closing line so_far Words = after_inner_block line.number so_far.around so_far
after_closing line so_far Rows = after_inner_block line.number so_far.around so_far

-- what has been read after a word line without faults; the closing word of the file, after which nothing is read,
-- is not among them
abbrev pub after_word : WordLine → SoFar → Role → SoFar
after_word line so_far Value = with_item line Words so_far
after_word line so_far HasRows = with_item line Rows so_far
after_word line so_far (Encloses rows) = with_item line (Enclosed rows) so_far
after_word line so_far (Opens form) =
    record so_far { block = opened line form; below = Words; around = so_far.block ∷ so_far.around }
after_word line so_far (Begins form) = only_open (opened line form)
after_word line so_far BeginsLattice = only_open (opened line (unwrap_or (lattice_block (argument_of line)) so_far.block.form))
after_word line so_far Closes = after_closing line so_far so_far.below
after_word line so_far Unsupported = so_far

-- a row belongs to the last word line
abbrev pub after_row : WordLine → SoFar → SoFar
after_row row so_far = record so_far { block = record so_far.block { items = with_row row so_far.block.items } }

-- what has been read after one more line without faults
abbrev pub after_line : WordLine → SoFar → SoFar
after_line line so_far =
    if is_row line
    then after_row line so_far
    else option_map_or (λ rule. after_word line so_far rule.role) (rule_at so_far line) so_far

-- what has been read after these lines more, the first of them first
abbrev pub read_after : SoFar → List WordLine → SoFar
read_after so_far [] = so_far
read_after so_far (line ∷ lines) = read_after (after_line line so_far) lines
