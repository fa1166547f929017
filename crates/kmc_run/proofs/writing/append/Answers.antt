use Rattle.kmc_run.proofs.WriteLemmas.{fails_one}
use Rattle.kmc_run.specs.Writes.{Append}
use Rattle.kmc_run.proofs.writing.append.Goals as goal

pub returns-in-Err : goal.returns-in-Err
returns-in-Err g c =
    let call = c.in-Err.ensures in
    record {
      reads = record { files = call.files; faults = call.reads; loads = call.loads };
      faults = (call.cause, call.other_writes);
      outs = fails_one (Append c.args.out c.args.piece.now) _ _ call.err;
    }
