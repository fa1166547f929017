-- The shape of a file, and what reading it may answer.
use Rattle.std.specs.Prelude.{◌≡◌, ℕ, List, Result, Ok, Err}
use Rattle.kmc_base.specs.declared.ids.FileId.{FileId}
use Rattle.deck_shape.specs.Blocks.{OfEachBlock, file_at}
use Rattle.deck_shape.specs.LineFaults.{file_of_text}
use Rattle.deck_shape.specs.Reading.{first_block}
use Rattle.deck_shape.specs.RisingLines.{RisesBlock}
use Rattle.deck_shape.specs.WholeBlocks.{IsFormOf, IsWholeFile}
use Rattle.deck_shape.specs.declared.fault.DeckFault.{DeckFault}
use Rattle.deck_shape.specs.declared.fault.DeckFault.TheVariants.{Fault as Faulty, OutOfMemory}
use Rattle.deck_shape.specs.declared.shape.Shape.{Shape}
use Rattle.deck_words.specs.declared.fault.LineFault.{LineFault}

-- the shape of a text of a file: its blocks are those of the text, they are whole, their lines rise, and the file's block
-- is one of that file
pub record IsShapeOf (file : FileId) (text : List ℕ) (shape : Shape) : Type 0 where
  pub read : file_of_text (first_block file) text ≡ Ok (file_at text shape)
  pub whole : IsWholeFile (file_at text shape)
  pub rising : OfEachBlock RisesBlock (file_at text shape)
  pub form_of_file : IsFormOf file shape.block.form

-- The fault of a file that was not read: it names the file, and the line and the kind that the definition of its
-- reading gives. Out of memory says nothing of the file.
abbrev pub IsFaultOf : {X : Type 0} → FileId → Result X LineFault → DeckFault → Type 0
IsFaultOf file read OutOfMemory = Unit {0}
IsFaultOf file read (Faulty fault) = (fault.file ≡ file) × (read ≡ Err (record { line = fault.line; kind = fault.kind }))
