-- The names of the files of a run, in its folder and on the screen.
use Rattle.std.specs.Prelude.{ℕ, List, codes}
use Rattle.kmc_base.specs.declared.ids.FileId.{FileId}
use Rattle.kmc_base.specs.declared.ids.FileId.TheVariants.{Simulation, Lattice, Energetics, Mechanism, State}
use Rattle.kmc_base.specs.declared.ids.OutId.{OutId}
use Rattle.kmc_base.specs.declared.ids.OutId.TheVariants.{History, Procstat, Specnum}

-- an input file
abbrev pub input_name : FileId → List ℕ
input_name Simulation = codes "simulation_input.dat"
input_name Lattice = codes "lattice_input.dat"
input_name Energetics = codes "energetics_input.dat"
input_name Mechanism = codes "mechanism_input.dat"
input_name State = codes "state_input.dat"

-- an output
abbrev pub output_name : OutId → List ℕ
output_name History = codes "history_output.txt"
output_name Procstat = codes "procstat_output.txt"
output_name Specnum = codes "specnum_output.txt"
