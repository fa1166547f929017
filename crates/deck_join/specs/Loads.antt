-- What loading the files of a deck may answer.
use Rattle.std.specs.Prelude.{◌≡◌, ◌≢◌, ◌∷◌, [], List, Option, None, Some, IfSome, Result, Ok, Err, if◌then◌else◌}
use Rattle.deck.specs.declared.deck.Deck.{Deck}
use Rattle.deck_shape.specs.declared.fault.DeckFault.{DeckFault}
use Rattle.deck_shape.specs.declared.fault.DeckFault.TheVariants.{Fault as Faulty, OutOfMemory as NoMemory}
use Rattle.deck_shape.specs.declared.fault.Fault.{Fault as FaultOfFile}
use Rattle.kmc_base.specs.Numbered.{Numbered, next_fails, one_call_more}
use Rattle.kmc_base.specs.declared.ids.FileId.{FileId}
use Rattle.kmc_base.specs.declared.ids.FileId.TheVariants.{State}
use Rattle.deck_join.specs.declared.refusal.DeckRefusal.{DeckRefusal}
use Rattle.deck_join.specs.declared.refusal.DeckRefusal.TheVariants.{Load, Fault, OutOfMemory}

-- the file that could not be loaded, by a refusal
abbrev pub failed_load : DeckRefusal → Option FileId
failed_load (Load file) = Some file
failed_load (Fault fault) = None
failed_load OutOfMemory = None

-- the refusal of files that have a fault, or for which memory was short
abbrev pub refusal_of : DeckFault → DeckRefusal
refusal_of (Faulty fault) = Fault fault
refusal_of NoMemory = OutOfMemory

-- the files that a deck is read from
abbrev pub IsOfDeck : FileId → Type 0
IsOfDeck State = ⊥
IsOfDeck file = Unit {0}

-- no file but those of a deck is loaded: if one could not be, it is one of them
abbrev pub LoadsDeck : DeckRefusal → Type 0
LoadsDeck refusal = IfSome (failed_load refusal) IsOfDeck

-- of files that are loaded one after another, the first whose load fails, by the numbers of the loads that fail
abbrev pub first_failing : Numbered → List FileId → Option FileId
first_failing calls [] = None
first_failing calls (file ∷ files) = if next_fails calls then Some file else first_failing (one_call_more calls) files

-- Unless memory was short, the file that could not be loaded is the first of these whose load fails, and none where none
-- fails, if the folder reports which of its loads fail.
abbrev pub FailsInOrder : List FileId → Option Numbered → DeckRefusal → Type 0
FailsInOrder files loads refusal = IfSome loads (λ calls. refusal ≢ OutOfMemory → failed_load refusal ≡ first_failing calls files)

-- what a load that gave no text answers
abbrev pub IsLoadFault : DeckRefusal → Type 0
IsLoadFault (Load file) = Unit {0}
IsLoadFault (Fault fault) = ⊥
IsLoadFault OutOfMemory = Unit {0}

-- A deck that is read is that of the files, and a fault is their first. Out of memory and a load that failed say nothing of
-- what is in the files.
abbrev pub IsOfFiles : Result Deck DeckRefusal → Result Deck FaultOfFile → Type 0
IsOfFiles (Ok deck) given = given ≡ Ok deck
IsOfFiles (Err (Load file)) given = Unit {0}
IsOfFiles (Err (Fault fault)) given = given ≡ Err fault
IsOfFiles (Err OutOfMemory) given = Unit {0}
