use Rattle.std.proofs.Common.{◌≡◌, ◌-◌, ◌≤◌}
use Rattle.kmc_report.specs.Stops.{end_of_time}
use Rattle.kmc_run.proofs.EventLemmas.{Passed}
use Rattle.kmc_run.specs.Given.{given_all}
use Rattle.kmc_run.specs.Samples.{time_of}
use Rattle.kmc_run.specs.Writes.{state_by}
use Rattle.kmc_run.proofs.driving.run_events.Given as goal

-- the events before the present one are passed, with their writes done, and the samples that show them are given
abbrev pub invariant-loop-closed : goal.invariant-loop-closed
invariant-loop-closed g l =
    let folder = g.F.Folder in
    let seen = state_by folder.files folder.outs folder.read_faults folder.write_faults folder.loads in
    record {
      deck : l.closed.deck ≡ l.fn.start.deck;
      passed : Passed l.fn.start.deck l.fn.start.event l.closed.event (seen l.fn.folder) (seen l.folder);
      given : l.sampler ≡ given_all l.closed.deck.plan l.closed.event (time_of l.closed.deck l.closed.event);
      in_time : time_of l.closed.deck l.closed.event ≤ end_of_time l.closed.deck.plan;
    }

abbrev pub decreases-loop-closed : goal.decreases-loop-closed
decreases-loop-closed g l = l.closed.deck.plan.max_steps - l.closed.event
