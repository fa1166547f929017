-- The exit statuses of the program.
use Rattle.std.specs.Prelude.{ℕ}
use Rattle.deck_join.specs.declared.refusal.DeckRefusal.{DeckRefusal}
use Rattle.deck_join.specs.declared.refusal.DeckRefusal.TheVariants.{Load, Fault, OutOfMemory as NoMemoryToRead}
use Rattle.kmc_run.specs.declared.drive_fault.DriveFault.{DriveFault}
use Rattle.kmc_run.specs.declared.drive_fault.DriveFault.TheVariants.{WriteFault as WriteFailed, OutOfMemory as NoMemoryToRun}
use Rattle.kmc_run.specs.declared.status.Status.{Status}
use Rattle.kmc_run.specs.declared.status.Status.TheVariants.{Done, BadWords, Refused, ReadFault, WriteFault, ScreenFault, OutOfMemory}

-- the number of each; 1 is none of them
abbrev pub number_of_status : Status → ℕ
number_of_status Done = 0
number_of_status BadWords = 2
number_of_status (Refused fault) = 3
number_of_status (ReadFault file) = 4
number_of_status (WriteFault out) = 5
number_of_status ScreenFault = 6
number_of_status OutOfMemory = 7

-- the status of a deck that was not read
abbrev pub status_of_refusal : DeckRefusal → Status
status_of_refusal (Load file) = ReadFault file
status_of_refusal (Fault fault) = Refused fault
status_of_refusal NoMemoryToRead = OutOfMemory

-- the status of a run that was broken off
abbrev pub status_of_fault : DriveFault → Status
status_of_fault (WriteFailed out) = WriteFault out
status_of_fault NoMemoryToRun = OutOfMemory
