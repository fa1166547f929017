-- The blocks of a file, as lists of lines.
use Rattle.std.specs.Prelude.{ℕ, ◌||◌, Bool, List, [], ◌∷◌, ◌++◌, map, false}
use Rattle.std.specs.List.{AllByRecursion, list_any}
use Rattle.dec_text.specs.Lines.{Run, WordLine}
use Rattle.dec_text.specs.Spans.{line_at, run_at}
use Rattle.deck_shape.specs.LineWords.{head_of}
use Rattle.deck_words.specs.Tables.{is_spelled}
use Rattle.deck_words.specs.declared.keyword.Keyword.{Keyword}
use Rattle.deck_shape.specs.declared.shape.Block.{Block}
use Rattle.deck_shape.specs.declared.shape.Item.{Item}
use Rattle.deck_shape.specs.declared.shape.Section.{Section}
use Rattle.deck_shape.specs.declared.shape.Shape.{Shape}
use Rattle.deck_words.specs.declared.table.BlockForm.{BlockForm}
use Rattle.deck_words.specs.declared.table.Need.{Need}
use Rattle.deck_words.specs.declared.table.Need.TheVariants.{Optional, Required, ThisOr, HereOrInVariants}
use Rattle.deck_words.specs.declared.table.Rule.{Rule}

-- a word line, and the rows that belong to it
pub record ItemLines : Type 0 where
  pub line : WordLine
  pub rows : List WordLine

-- A block: the word that opened it with its line and its argument, the line of its closing word, and its word lines.
-- A file that is a block as a whole has no opening word: an empty one, at line 0.
pub record BlockLines : Type 0 where
  pub form : BlockForm
  pub word : Run
  pub line : ℕ
  pub end_line : ℕ
  pub name : Run
  pub items : List ItemLines

-- a cluster or a step, and its variants
pub record SectionLines : Type 0 where
  pub block : BlockLines
  pub variants : List BlockLines

-- the block of a file, and the blocks within it
pub record FileLines : Type 0 where
  pub block : BlockLines
  pub sections : List SectionLines

-- a fact of each block of a file: its own, those of its sections and of their variants
abbrev pub OfEachBlock : (BlockLines → Type 0) → FileLines → Type 0
OfEachBlock P file = P file.block × AllByRecursion (λ section. P section.block × AllByRecursion P section.variants) file.sections

-- the word line and the rows of an item in its text
abbrev pub item_at : List ℕ → Item → ItemLines
item_at text item = record { line = line_at text item.line; rows = map (line_at text) item.rows }

-- the lines of a block in its text
abbrev pub block_at : List ℕ → Block → BlockLines
block_at text block = record {
  form = block.form;
  word = run_at text block.word;
  line = block.line;
  end_line = block.end_line;
  name = run_at text block.name;
  items = map (item_at text) block.items;
}

-- the lines of a section in its text
abbrev pub section_at : List ℕ → Section → SectionLines
section_at text section = record { block = block_at text section.block; variants = map (block_at text) section.variants }

-- the lines of a file in its text
abbrev pub file_at : List ℕ → Shape → FileLines
file_at text shape = record { block = block_at text shape.block; sections = map (section_at text) shape.sections }

-- a word line has this keyword
abbrev pub has_keyword : Keyword → ItemLines → Bool
has_keyword keyword item = is_spelled keyword (head_of item.line)

-- some word line has a keyword
abbrev pub stands : Keyword → List ItemLines → Bool
stands keyword items = list_any (has_keyword keyword) items

-- some word line has the other word that counts as a rule's word
abbrev pub has_other : Need → List ItemLines → Bool
has_other Optional items = false
has_other Required items = false
has_other (ThisOr other) items = stands other items
has_other HereOrInVariants items = false

-- some word line has the word of a rule, or the other word that counts as the same
abbrev pub has_word_of : Rule → List ItemLines → Bool
has_word_of rule items = stands rule.keyword items || has_other rule.need items

-- the last of some word lines, with a row more
abbrev pub with_row : WordLine → List ItemLines → List ItemLines
with_row row [] = []
with_row row (item ∷ []) = record { line = item.line; rows = item.rows ++ row ∷ [] } ∷ []
with_row row (item ∷ next ∷ items) = item ∷ with_row row (next ∷ items)
