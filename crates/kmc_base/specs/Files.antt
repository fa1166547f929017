-- The input files of a folder, by their bytes.
use Rattle.std.specs.Prelude.{◌≡◌, ℕ, ◌<◌, ◌≤◌, List, [], ◌∷◌, Option, None, Some, length, IsSomeAnd, Result, Ok, Err, Vec}
use Rattle.std.specs.declared.alloc.Global.{Global}
use Rattle.kmc_base.specs.declared.ids.FileId.{FileId}
use Rattle.kmc_base.specs.declared.ids.FileId.TheVariants.{Simulation, Lattice, Energetics, Mechanism, State}
use Rattle.kmc_base.specs.declared.folder.LoadFault.{LoadFault}
use Rattle.kmc_base.specs.declared.folder.LoadFault.TheVariants.{Absent, TooLong, Failed, OutOfMemory}

-- the bytes of each input file, or None where there is no such file
pub record Files : Type 0 where
  pub simulation : Option (List ℕ)
  pub lattice : Option (List ℕ)
  pub energetics : Option (List ℕ)
  pub mechanism : Option (List ℕ)
  pub state : Option (List ℕ)

-- the bytes of a file
abbrev pub file_of : Files → FileId → Option (List ℕ)
file_of files Simulation = files.simulation
file_of files Lattice = files.lattice
file_of files Energetics = files.energetics
file_of files Mechanism = files.mechanism
file_of files State = files.state

-- What loading a file of at most so many bytes may answer, if the folder reports its files: the bytes, or Absent only
-- if there is no file, or TooLong only if there are more; or it failed or found no memory.
abbrev pub Loads : Option (List ℕ) → ℕ → Result (Vec ℕ Global) LoadFault → Type 0
Loads file max (Ok bytes) = (file ≡ Some bytes.items) × (length bytes.items ≤ max)
Loads file max (Err Absent) = file ≡ None
Loads file max (Err TooLong) = IsSomeAnd file (λ bytes. max < length bytes)
Loads file max (Err Failed) = Unit {0}
Loads file max (Err OutOfMemory) = Unit {0}

-- what holds of a load unless it failed
abbrev pub UnlessFailed : Result (Vec ℕ Global) LoadFault → Type 0 → Type 0
UnlessFailed (Ok bytes) P = P
UnlessFailed (Err Absent) P = P
UnlessFailed (Err TooLong) P = P
UnlessFailed (Err Failed) P = Unit {0}
UnlessFailed (Err OutOfMemory) P = P

-- there is no file
abbrev pub no_files : Files
no_files = record { simulation = None; lattice = None; energetics = None; mechanism = None; state = None }

-- the files once one of them has these bytes; the others stay
abbrev pub with_file : Files → FileId → Option (List ℕ) → Files
with_file files Simulation bytes = record files { simulation = bytes }
with_file files Lattice bytes = record files { lattice = bytes }
with_file files Energetics bytes = record files { energetics = bytes }
with_file files Mechanism bytes = record files { mechanism = bytes }
with_file files State bytes = record files { state = bytes }

-- the files of a list over those of a folder; of two with one id the first counts
abbrev pub files_over : Files → List (FileId × Vec ℕ Global) → Files
files_over files [] = files
files_over files (file ∷ rest) = with_file (files_over files rest) file.0 (Some file.1.items)

-- the files of a list
abbrev pub files_of : List (FileId × Vec ℕ Global) → Files
files_of list = files_over no_files list
