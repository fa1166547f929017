-- The counts of faults that a folder keeps.
use Rattle.std.specs.Prelude.{ℕ, slice_index, slice_set}
use Rattle.kmc_base.specs.Faults.{one_more}
use Rattle.kmc_base.specs.declared.fault_counts.FaultCounts.{FaultCounts}
use Rattle.kmc_base.specs.declared.ids.FileId.{FileId}
use Rattle.kmc_base.specs.declared.ids.FileId.TheVariants.{Simulation, Lattice, Energetics, Mechanism, State}
use Rattle.kmc_base.specs.declared.ids.OutId.{OutId}
use Rattle.kmc_base.specs.declared.ids.OutId.TheVariants.{History, Procstat, Specnum}

-- the place of a file among the counts
abbrev pub place_of_file : FileId → ℕ
place_of_file Simulation = 0
place_of_file Lattice = 1
place_of_file Energetics = 2
place_of_file Mechanism = 3
place_of_file State = 4

-- the place of an output among the counts
abbrev pub place_of_out : OutId → ℕ
place_of_out History = 0
place_of_out Procstat = 1
place_of_out Specnum = 2

-- how often reading a file has failed
abbrev pub reads_of : FaultCounts → FileId → ℕ
reads_of counts file = slice_index counts.reads (place_of_file file)

-- how often an output has failed
abbrev pub writes_of : FaultCounts → OutId → ℕ
writes_of counts out = slice_index counts.writes (place_of_out out)

-- the counts after reading a file has failed once more
abbrev pub read_failed : FaultCounts → FileId → FaultCounts
read_failed counts file = record counts { reads = slice_set counts.reads (place_of_file file) (one_more (reads_of counts file)) }

-- the counts after an output has failed once more
abbrev pub write_failed : FaultCounts → OutId → FaultCounts
write_failed counts out = record counts { writes = slice_set counts.writes (place_of_out out) (one_more (writes_of counts out)) }
