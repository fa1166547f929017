use Rattle.kmc_run.proofs.WriteLemmas.{fails_one}
use Rattle.kmc_run.specs.Writes.{Begin}
use Rattle.kmc_run.proofs.writing.begin.Goals as goal

pub returns-in-Err : goal.returns-in-Err
returns-in-Err g c =
    let call = c.in-Err.ensures in
    record {
      reads = record { files = call.files; faults = call.reads; loads = call.loads };
      faults = (call.cause, call.other_writes);
      outs = fails_one (Begin c.args.out) _ _ call.err;
    }
