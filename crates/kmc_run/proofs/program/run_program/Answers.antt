use Rattle.kmc_run.proofs.EndLemmas.{shown_failure}
use Rattle.kmc_run.specs.declared.status.Status.TheVariants.{OutOfMemory}
use Rattle.kmc_run.proofs.program.run_program.Goals as goal

pub returns-in-Err-clause-screen : goal.returns-in-Err-clause-screen
returns-in-Err-clause-screen g c =
    rw (c.tell-in-Err.ensures.same) (shown_failure _ (g.F.Folder.files c.args.folder.now) OutOfMemory _ _ tt c.tell-in-Err.ensures.shows)

pub returns-in-Err-perform-clause-screen : goal.returns-in-Err-perform-clause-screen
returns-in-Err-perform-clause-screen g c =
    rw (c.tell-in-Err-perform.ensures.same)
    (shown_failure _ (g.F.Folder.files c.args.folder.now) c.in-Err-perform.status _ _ c.in-Err-perform.ensures.failure
    c.tell-in-Err-perform.ensures.shows)
