-- The writes of a run, one after another, and what they make of the outputs.
use Rattle.std.specs.Prelude.{◌≡◌, ℕ, List, [], ◌∷◌, ◌++◌, Option, None, Some, Result, Ok, Err}
use Rattle.kmc_base.specs.Faults.{OnlyFailed, SameCounts}
use Rattle.kmc_base.specs.Files.{Files}
use Rattle.kmc_base.specs.Numbered.{Numbered}
use Rattle.kmc_base.specs.Outs.{Outs, MayAppend, MayBegin, appended, begun}
use Rattle.kmc_base.specs.Told.{Tells}
use Rattle.kmc_base.specs.declared.ids.FileId.{FileId}
use Rattle.kmc_base.specs.declared.ids.OutId.{OutId}
use Rattle.kmc_run.specs.declared.drive_fault.DriveFault.{DriveFault}
use Rattle.kmc_run.specs.declared.drive_fault.DriveFault.TheVariants.{WriteFault, OutOfMemory}

-- one write: an output is begun, or a piece is added at its end
pub data Write : Type 0 where
  Begin : (out : OutId) → Write
  Append : (out : OutId) (piece : List ℕ) → Write

-- the output that a write is of
abbrev pub target_of : Write → OutId
target_of (Begin out) = out
target_of (Append out piece) = out

-- the outputs after a write
abbrev pub written : Write → Outs → Outs
written (Begin out) outs = begun out outs
written (Append out piece) outs = appended out piece outs

-- the outputs after some writes, the first of them first
abbrev pub all_written : List Write → Outs → Outs
all_written [] outs = outs
all_written (write ∷ writes) outs = all_written writes (written write outs)

-- what a write that failed may leave: an append a front of its piece, a begin the output as it was or empty
abbrev pub MayWrite : Write → Outs → Outs → Type 0
MayWrite (Begin out) then now = MayBegin out then now
MayWrite (Append out piece) then now = MayAppend out piece then now

-- some of the writes were done in order, and the next one, which is of this output, failed
pub record FailsAt (writes : List Write) (out : OutId) (then now : Outs) : Type 0 where
  pub done : List Write
  pub next : Write
  pub others : List Write
  pub all : writes ≡ done ++ next ∷ others
  pub of : target_of next ≡ out
  pub left : MayWrite next (all_written done then) now

-- some of the writes were done in order, and no other
pub record StopsAfter (writes : List Write) (then now : Outs) : Type 0 where
  pub done : List Write
  pub others : List Write
  pub all : writes ≡ done ++ others
  pub left : now ≡ all_written done then

-- what writes that ended in a fault leave
abbrev pub Stops : List Write → DriveFault → Outs → Outs → Type 0
Stops writes (WriteFault out) then now = FailsAt writes out then now
Stops writes OutOfMemory then now = StopsAfter writes then now

-- All of the writes were done, as far as the outputs are reported.
abbrev pub Done : List Write → Option Outs → Option Outs → Type 0
Done writes before after = Tells before after (λ then now. now ≡ all_written writes then)

-- The writes ended in this fault, as far as the outputs are reported.
abbrev pub Ended : List Write → DriveFault → Option Outs → Option Outs → Type 0
Ended writes fault before after = Tells before after (Stops writes fault)

-- the output that could not be written, if the fault is of writing
abbrev pub failed_output : DriveFault → Option OutId
failed_output (WriteFault out) = Some out
failed_output OutOfMemory = None

-- All that a folder reports: its files and outputs, how often each of them has failed, and which of its loads fail.
pub record FolderState : Type 0 where
  pub files : Option Files
  pub outs : Option Outs
  pub read_faults : FileId → ℕ
  pub write_faults : OutId → ℕ
  pub loads : Option Numbered

-- the same of a folder, by what its kind reports
abbrev pub state_by : {F : Type 0} → (F → Option Files) → (F → Option Outs) → (F → FileId → ℕ) → (F → OutId → ℕ) → (F → Option Numbered)
    → F → FolderState
state_by files outs read_faults write_faults loads folder = record {
  files = files folder;
  outs = outs folder;
  read_faults = read_faults folder;
  write_faults = write_faults folder;
  loads = loads folder;
}

-- no file was read, and none has changed
pub record ReadNothing (before after : FolderState) : Type 0 where
  pub files : after.files ≡ before.files
  pub faults : SameCounts before.read_faults after.read_faults
  pub loads : after.loads ≡ before.loads

-- all of the writes were done, and none has failed
pub record WroteAll (writes : List Write) (before after : FolderState) : Type 0 where
  pub reads : ReadNothing before after
  pub faults : SameCounts before.write_faults after.write_faults
  pub outs : Done writes before.outs after.outs

-- the writes were broken off by a fault, which is the only one
pub record BrokeOff (writes : List Write) (fault : DriveFault) (before after : FolderState) : Type 0 where
  pub reads : ReadNothing before after
  pub faults : OnlyFailed (failed_output fault) before.write_faults after.write_faults
  pub outs : Ended writes fault before.outs after.outs

-- What a call that writes leaves: all its writes are done, or they were broken off.
abbrev pub Wrote : {X : Type 0} → List Write → Result X DriveFault → FolderState → FolderState → Type 0
Wrote writes (Ok x) before after = WroteAll writes before after
Wrote writes (Err fault) before after = BrokeOff writes fault before after
