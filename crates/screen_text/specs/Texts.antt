-- The texts that the program shows on the screen. Each is of whole lines, which end with LF.
use Rattle.std.specs.Prelude.{ℕ, List, ◌++◌, codes}
use Rattle.std.specs.Fmt.{decimal}
use Rattle.kmc_base.specs.FileNames.{input_name, output_name}
use Rattle.kmc_base.specs.declared.ids.FileId.{FileId}
use Rattle.kmc_base.specs.declared.ids.OutId.{OutId}

-- what the command line takes
abbrev pub usage_text : List ℕ
usage_text = codes "kmc: run, check, sample N or schedule N, with --workers W and --spread M\n"

-- a deck has a fault: its file, its line and its kind
abbrev pub fault_text : FileId → ℕ → ℕ → List ℕ
fault_text file line kind =
    codes "fault " ++ input_name file ++ codes " line " ++ decimal line ++ codes " kind " ++ decimal kind ++ codes "\n"

-- an input file could not be read
abbrev pub unread_text : FileId → List ℕ
unread_text file = codes "cannot read " ++ input_name file ++ codes "\n"

-- an output could not be written
abbrev pub unwritten_text : OutId → List ℕ
unwritten_text out = codes "cannot write " ++ output_name out ++ codes "\n"

-- there was no memory
abbrev pub no_memory_text : List ℕ
no_memory_text = codes "out of memory\n"

-- what a deck has: sites of its lattice, processes, and clusters of its cluster expansion
abbrev pub deck_text : ℕ → ℕ → ℕ → List ℕ
deck_text sites processes clusters =
    codes "sites " ++ decimal sites ++ codes "\nprocesses " ++ decimal processes ++ codes "\nclusters " ++ decimal clusters ++ codes "\n"
