-- What the program may answer, and what it leaves in the outputs.
use Rattle.std.specs.Prelude.{◌≡◌, ◌≢◌, [], List, Option, None, Some, IfSome, Result, Ok, Err}
use Rattle.command_line.specs.declared.line.Mode.{Mode}
use Rattle.command_line.specs.declared.line.Mode.TheVariants.{Run, Check, Sample}
use Rattle.deck_shape.specs.declared.fault.Fault.{Fault}
use Rattle.kmc_base.specs.Files.{Files}
use Rattle.kmc_base.specs.Numbered.{Numbered}
use Rattle.kmc_base.specs.Outs.{Outs}
use Rattle.kmc_base.specs.declared.ids.FileId.{FileId}
use Rattle.kmc_base.specs.declared.ids.OutId.{OutId}
use Rattle.deck.specs.declared.deck.Deck.{Deck}
use Rattle.deck_join.specs.Decks.{deck_of_files}
use Rattle.deck_join.specs.Loads.{IsOfDeck, first_failing}
use Rattle.deck_join.specs.Texts.{deck_files}
use Rattle.kmc_run.specs.MadeFiles.{made_folder}
use Rattle.kmc_run.specs.Samples.{run_writes}
use Rattle.kmc_run.specs.Writes as writing
use Rattle.kmc_run.specs.Writes.{Write}
use Rattle.kmc_run.specs.declared.drive_fault.DriveFault.TheVariants.{WriteFault as WriteFailed, OutOfMemory as NoMemory}
use Rattle.kmc_run.specs.declared.status.Status.{Status}
use Rattle.kmc_run.specs.declared.status.Status.TheVariants.{Done, BadWords, Refused, ReadFault, WriteFault, ScreenFault, OutOfMemory}

-- What holds of the deck that a command is of, or of the first fault of its files. These are the files of the folder, if it
-- reports them, or those of a made deck.
abbrev pub OfDeck : Mode → Option Files → (Result Deck Fault → Type 0) → Type 0
OfDeck Run files holds = IfSome files (λ told. holds (deck_of_files told))
OfDeck Check files holds = IfSome files (λ told. holds (deck_of_files told))
OfDeck (Sample number) files holds = holds (deck_of_files (made_folder number))

-- the files that a command reads
abbrev pub files_read : Mode → List FileId
files_read Run = deck_files
files_read Check = deck_files
files_read (Sample number) = []

-- the status with which a command ends, by the text that it has for the screen, if all was done
abbrev pub ending_of : {X : Type 0} → Result X Status → Status
ending_of (Ok text) = Done
ending_of (Err status) = status

-- a status that is not the end of all that a command does
abbrev pub IsFailure : Status → Type 0
IsFailure Done = ⊥
IsFailure ScreenFault = ⊥
IsFailure BadWords = ⊥
IsFailure status = Unit {0}

-- the file that could not be read, by a status
abbrev pub failed_read : Status → Option FileId
failed_read (ReadFault file) = Some file
failed_read status = None

-- no file but those of a deck is read: if one could not be read, it is one of them
abbrev pub ReadsDeck : Status → Type 0
ReadsDeck status = IfSome (failed_read status) IsOfDeck

-- Unless memory was short, the file that could not be read is the first of these whose load fails, and none where none
-- fails, if the folder reports which of its loads fail.
abbrev pub FailsInOrder : List FileId → Option Numbered → Status → Type 0
FailsInOrder files loads status = IfSome loads (λ calls. status ≢ OutOfMemory → failed_read status ≡ first_failing calls files)

-- the output that could not be written, by a status
abbrev pub failed_write : Status → Option OutId
failed_write (WriteFault out) = Some out
failed_write status = None

-- What a command may answer, by what its files give. A deck is run or checked: the answer is Done, a fault of reading where
-- the command reads files, of writing where it writes, or of the screen, or out of memory. Files with a fault are refused with
-- the first, unless reading failed or memory was short.
abbrev pub MayAnswer : Mode → Result Deck Fault → Status → Type 0
MayAnswer mode (Ok deck) BadWords = ⊥
MayAnswer mode (Ok deck) (Refused fault) = ⊥
MayAnswer Check (Ok deck) (WriteFault out) = ⊥
MayAnswer (Sample number) (Ok deck) (WriteFault out) = ⊥
MayAnswer (Sample number) (Ok deck) (ReadFault file) = ⊥
MayAnswer mode (Ok deck) status = Unit {0}
MayAnswer mode (Err first) (Refused fault) = fault ≡ first
MayAnswer (Sample number) (Err first) (ReadFault file) = ⊥
MayAnswer mode (Err first) (ReadFault file) = Unit {0}
MayAnswer mode (Err first) OutOfMemory = Unit {0}
MayAnswer mode (Err first) status = ⊥

-- all that a command writes, of a deck: only a run writes
abbrev pub writes_of : Mode → Deck → List Write
writes_of Run deck = run_writes deck
writes_of Check deck = []
writes_of (Sample number) deck = []

-- What these writes leave in the outputs. Done, and after a fault of the screen: all of them are done. A fault of writing, or
-- out of memory: those before the one that failed, or the first of them. Any other answer: nothing is written.
abbrev pub LeavesOuts : List Write → Status → Option Outs → Option Outs → Type 0
LeavesOuts writes Done before after = writing.Done writes before after
LeavesOuts writes ScreenFault before after = writing.Done writes before after
LeavesOuts writes (WriteFault out) before after = writing.Ended writes (WriteFailed out) before after
LeavesOuts writes OutOfMemory before after = writing.Ended writes NoMemory before after
LeavesOuts writes status before after = after ≡ before

-- what is left: where the files have a fault, nothing is written
abbrev pub Leaves : Mode → Result Deck Fault → Status → Option Outs → Option Outs → Type 0
Leaves mode (Ok deck) status before after = LeavesOuts (writes_of mode deck) status before after
Leaves mode (Err first) status before after = after ≡ before

-- Only a run changes the outputs, whatever the folder reports, and not if the answer says that nothing was run.
abbrev pub KeepsOuts : Mode → Status → Option Outs → Option Outs → Type 0
KeepsOuts Check status before after = after ≡ before
KeepsOuts (Sample number) status before after = after ≡ before
KeepsOuts Run BadWords before after = after ≡ before
KeepsOuts Run (Refused fault) before after = after ≡ before
KeepsOuts Run (ReadFault file) before after = after ≡ before
KeepsOuts Run status before after = Unit {0}
