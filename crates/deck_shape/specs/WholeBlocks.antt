-- What is true of the blocks of a file that is read without faults of form.
use Rattle.std.specs.Prelude.{◌≡◌, ◌≤◌, true, false, List, [], length, Some}
use Rattle.std.specs.List.{AllByRecursion, count_by, list_any}
use Rattle.kmc_base.specs.declared.ids.FileId.{FileId}
use Rattle.kmc_base.specs.declared.ids.FileId.TheVariants.{Simulation as SimulationText, Lattice as LatticeText}
use Rattle.kmc_base.specs.declared.ids.FileId.TheVariants.{Energetics as EnergeticsText, Mechanism as MechanismText, State as StateText}
use Rattle.dec_text.specs.Lines.{Run}
use Rattle.deck_shape.specs.Blocks.{BlockLines, FileLines, ItemLines, SectionLines, has_keyword}
use Rattle.deck_shape.specs.LineFaults.{is_missing}
use Rattle.deck_shape.specs.LineWords.{arguments_of, head_of}
use Rattle.deck_words.specs.Keywords.{spelling}
use Rattle.deck_words.specs.Tables.{allows, rule_for, rules_of}
use Rattle.deck_words.specs.declared.keyword.Keyword.{Keyword}
use Rattle.deck_words.specs.declared.table.BlockForm.{BlockForm}
use Rattle.deck_words.specs.declared.table.BlockForm.TheVariants.{Simulation, DefaultChoice, PeriodicCell, Explicit, Energetics, Mechanism}
use Rattle.deck_words.specs.declared.table.BlockForm.TheVariants.{InitialState}
use Rattle.deck_words.specs.declared.table.Role.TheVariants.{Opens}
use Rattle.deck_words.specs.declared.table.Rule.{Rule}

-- a block that is a lattice, in one of its three forms
abbrev pub IsLatticeForm : BlockForm → Type 0
IsLatticeForm DefaultChoice = Unit {0}
IsLatticeForm PeriodicCell = Unit {0}
IsLatticeForm Explicit = Unit {0}
IsLatticeForm form = ⊥

-- a block that is that of a file, once it is closed
abbrev pub IsFormOf : FileId → BlockForm → Type 0
IsFormOf SimulationText form = form ≡ Simulation
IsFormOf LatticeText form = IsLatticeForm form
IsFormOf EnergeticsText form = form ≡ Energetics
IsFormOf MechanismText form = form ≡ Mechanism
IsFormOf StateText form = form ≡ InitialState

-- a word that the block has, with as many arguments as it takes
pub record IsKnown (form : BlockForm) (item : ItemLines) : Type 0 where
  pub rule : Rule
  pub has_rule : rule_for form (head_of item.line) ≡ Some rule
  pub is_allowed : allows rule.arguments (length (arguments_of item.line)) ≡ true

-- a word that a block may have once is not twice among its words
abbrev pub IsOnce : BlockForm → List ItemLines → Keyword → Type 0
IsOnce form items keyword =
    (rule : Rule) → rule_for form (spelling keyword) ≡ Some rule → rule.is_once ≡ true → count_by (has_keyword keyword) items ≤ 1

-- the same of each word of a block
abbrev pub HasOnceWords : BlockLines → Type 0
HasOnceWords block = (keyword : Keyword) → IsOnce block.form block.items keyword

-- a block with these variants that misses no word, whose words have as many arguments as they take, and in which no word
-- is twice that it may have once
pub record IsWholeWith (variants : List BlockLines) (block : BlockLines) : Type 0 where
  pub known : AllByRecursion (IsKnown block.form) block.items
  pub once : HasOnceWords block
  pub none_missing : list_any (is_missing variants block.items) (rules_of block.form) ≡ false

-- the same of a block without variants
abbrev pub IsWhole : BlockLines → Type 0
IsWhole block = IsWholeWith [] block

-- a block that a word of the block around it opens
pub record IsOpenedIn (outer : BlockForm) (word : Run) (form : BlockForm) : Type 0 where
  pub rule : Rule
  pub has_rule : rule_for outer word.bytes ≡ Some rule
  pub opens : rule.role ≡ Opens form

-- a variant of a section, which is whole by itself
pub record IsWholeVariant (outer : BlockForm) (variant : BlockLines) : Type 0 where
  pub opened : IsOpenedIn outer variant.word variant.form
  pub whole : IsWhole variant

-- a section of a file, which is whole with its variants
pub record IsWholeSection (outer : BlockForm) (section : SectionLines) : Type 0 where
  pub opened : IsOpenedIn outer section.block.word section.block.form
  pub whole : IsWholeWith section.variants section.block
  pub variants : AllByRecursion (IsWholeVariant section.block.form) section.variants

-- a file whose blocks are whole
pub record IsWholeFile (file : FileLines) : Type 0 where
  pub block : IsWhole file.block
  pub sections : AllByRecursion (IsWholeSection file.block.form) file.sections
