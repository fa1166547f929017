use Rattle.kmc_run.proofs.EndLemmas.{told_or_failed}
use Rattle.kmc_run.proofs.ending.tell.Goals as goal

pub returns-in-ReadFault-clause-shows : goal.returns-in-ReadFault-clause-shows
returns-in-ReadFault-clause-shows g c = rw (c.in-ReadFault.is) (told_or_failed _ c.print_unread.result _ _ c.print_unread.ensures)

pub returns-in-WriteFault-clause-shows : goal.returns-in-WriteFault-clause-shows
returns-in-WriteFault-clause-shows g c = rw (c.in-WriteFault.is) (told_or_failed _ c.print_unwritten.result _ _ c.print_unwritten.ensures)
