use Rattle.std.proofs.Common.{◌+◌, ◌-◌}
use Rattle.kmc_report.specs.Sampler.{given_before, given_of}
use Rattle.kmc_report.specs.Samples.{sampling_of}
use Rattle.kmc_run.proofs.TimeSamples.{Sending}
use Rattle.kmc_run.specs.Writes.{state_by}
use Rattle.kmc_run.proofs.samples.write_times_of.Given as goal

-- the samples before the next one are written
abbrev pub invariant-loop-number : goal.invariant-loop-number
invariant-loop-number g l =
    let folder = g.F.Folder in
    let seen = state_by folder.files folder.outs folder.read_faults folder.write_faults folder.loads in
    Sending l.closed.deck l.closed.event l.until l.out l.fn.sampler (seen l.fn.folder) l.sampler (seen l.folder)

abbrev pub decreases-loop-number : goal.decreases-loop-number
decreases-loop-number g l =
    given_before (sampling_of l.closed.deck.plan l.out) (l.closed.event + 1) l.until - given_of l.sampler.given l.out
