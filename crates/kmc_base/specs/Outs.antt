-- The output files of a folder, by their bytes.
use Rattle.std.specs.Prelude.{◌≡◌, ℕ, List, [], ◌++◌, Option, None, Some, unwrap_or, take, ◌⊎◌}
use Rattle.kmc_base.specs.declared.ids.OutId.{OutId}
use Rattle.kmc_base.specs.declared.ids.OutId.TheVariants.{History, Procstat, Specnum}

-- the bytes of each output, or None where there is no such output
pub record Outs : Type 0 where
  pub history : Option (List ℕ)
  pub procstat : Option (List ℕ)
  pub specnum : Option (List ℕ)

-- no output is there
abbrev pub no_outs : Outs
no_outs = record { history = None; procstat = None; specnum = None }

-- the bytes of an output, where it is there
abbrev pub out_of : Outs → OutId → Option (List ℕ)
out_of outs History = outs.history
out_of outs Procstat = outs.procstat
out_of outs Specnum = outs.specnum

-- the bytes of an output; one that is not there counts as empty
abbrev pub bytes_of : Outs → OutId → List ℕ
bytes_of outs out = unwrap_or (out_of outs out) []

-- the outputs once one of them has these bytes; the others stay
abbrev pub with_out : Outs → OutId → List ℕ → Outs
with_out outs History bytes = record outs { history = Some bytes }
with_out outs Procstat bytes = record outs { procstat = Some bytes }
with_out outs Specnum bytes = record outs { specnum = Some bytes }

-- the outputs after one of them is begun: it is empty
abbrev pub begun : OutId → Outs → Outs
begun out outs = with_out outs out []

-- the outputs after a piece is added at the end of one of them
abbrev pub appended : OutId → List ℕ → Outs → Outs
appended out piece outs = with_out outs out (bytes_of outs out ++ piece)

-- what a begin that failed leaves: the outputs as they were, or that one empty
abbrev pub MayBegin : OutId → Outs → Outs → Type 0
MayBegin out before after = (after ≡ before) ⊎ (after ≡ begun out before)

-- what an append that failed leaves: the outputs as they were, or the first bytes of the piece added
abbrev pub MayAppend : OutId → List ℕ → Outs → Outs → Type 0
MayAppend out piece before after = (after ≡ before) ⊎ ((n : ℕ) × (after ≡ appended out (take n piece) before))
