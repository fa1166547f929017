-- A folder in memory, and a screen in memory.
use Rattle.std.specs.Prelude.{ℕ, ◌+◌, List, ◌++◌, Option, None, Some, length, nat_le, if◌then◌else◌, option_and_then}
use Rattle.std.specs.Option.{option_map}
use Rattle.kmc_base.specs.FaultCounts.{read_failed, write_failed}
use Rattle.kmc_base.specs.Faults.{one_more}
use Rattle.kmc_base.specs.Files.{Files}
use Rattle.kmc_base.specs.Numbered.{Numbered, next_fails, one_call_more}
use Rattle.kmc_base.specs.Outs.{Outs, appended, begun, bytes_of, out_of}
use Rattle.kmc_base.specs.declared.fault_counts.FaultCounts.{FaultCounts}
use Rattle.kmc_base.specs.declared.ids.FileId.{FileId}
use Rattle.kmc_base.specs.declared.ids.OutId.{OutId}

-- a folder in memory: its files, its outputs as long as it reports them, the room of an output,
-- which calls fail, and its counts of faults
pub record FolderInMemory : Type 0 where
  pub files : Files
  pub outs : Option Outs
  pub room : ℕ
  pub loads : Numbered
  pub begins : Numbered
  pub appends : Numbered
  pub faults : FaultCounts

-- the folder after a load: nothing but its counts has changed
abbrev pub after_load : FileId → FolderInMemory → FolderInMemory
after_load file folder = record folder {
  loads = one_call_more folder.loads;
  faults = if next_fails folder.loads then read_failed folder.faults file else folder.faults;
}

-- the folder after a begin: the output is empty, unless the call is one that fails
abbrev pub after_begin : OutId → FolderInMemory → FolderInMemory
after_begin out folder = record folder {
  begins = one_call_more folder.begins;
  faults = if next_fails folder.begins then write_failed folder.faults out else folder.faults;
  outs = if next_fails folder.begins then folder.outs else option_map (begun out) folder.outs;
}

-- the outputs after a piece is added, reported as long as that output stays within its room
abbrev pub appended_within : ℕ → OutId → List ℕ → Outs → Option Outs
appended_within room out piece outs =
    if nat_le (length (bytes_of outs out) + length piece) room then Some (appended out piece outs) else None

-- the folder after an append: the piece is added, unless the call is one that fails
abbrev pub after_append : OutId → List ℕ → FolderInMemory → FolderInMemory
after_append out piece folder = record folder {
  appends = one_call_more folder.appends;
  faults = if next_fails folder.appends then write_failed folder.faults out else folder.faults;
  outs = if next_fails folder.appends then folder.outs else option_and_then (appended_within folder.room out piece) folder.outs;
}

-- what the folder reports of an output
abbrev pub told_out : FolderInMemory → OutId → Option (List ℕ)
told_out folder out = option_and_then (λ outs. out_of outs out) folder.outs

-- a screen in memory: what it has taken as long as it reports that, its room, which calls fail, its count of faults
pub record SinkInMemory : Type 0 where
  pub taken : Option (List ℕ)
  pub room : ℕ
  pub puts : Numbered
  pub faults : ℕ

-- a text with a piece added at its end, reported as long as it stays within its room
abbrev pub added_within : ℕ → List ℕ → List ℕ → Option (List ℕ)
added_within room piece text = if nat_le (length text + length piece) room then Some (text ++ piece) else None

-- the screen after a put: the piece is taken, unless the call is one that fails
abbrev pub after_put : List ℕ → SinkInMemory → SinkInMemory
after_put piece sink = record sink {
  puts = one_call_more sink.puts;
  faults = if next_fails sink.puts then one_more sink.faults else sink.faults;
  taken = if next_fails sink.puts then sink.taken else option_and_then (added_within sink.room piece) sink.taken;
}
