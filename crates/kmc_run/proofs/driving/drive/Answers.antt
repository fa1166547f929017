use Rattle.kmc_run.proofs.WroteLemmas.{wrote_cause, wrote_err, wrote_no_fault, wrote_ok, wrote_reads}
use Rattle.kmc_run.specs.Samples.{run_writes}
use Rattle.kmc_run.proofs.driving.drive.Goals as goal

pub returns-clause-ok : goal.returns-clause-ok
returns-clause-ok g c = wrote_ok (run_writes c.args.deck) c.run_deck.result _ _ c.run_deck.ensures.wrote

pub returns-clause-err : goal.returns-clause-err
returns-clause-err g c = wrote_err (run_writes c.args.deck) c.run_deck.result _ _ c.run_deck.ensures.wrote

pub returns-clause-cause : goal.returns-clause-cause
returns-clause-cause g c = wrote_cause (run_writes c.args.deck) c.run_deck.result _ _ c.run_deck.ensures.wrote

pub returns-clause-no_fault : goal.returns-clause-no_fault
returns-clause-no_fault g c = wrote_no_fault (run_writes c.args.deck) c.run_deck.result _ _ c.run_deck.ensures.wrote

pub returns-clause-reads : goal.returns-clause-reads
returns-clause-reads g c = (wrote_reads (run_writes c.args.deck) c.run_deck.result _ _ c.run_deck.ensures.wrote).faults

pub returns-clause-files : goal.returns-clause-files
returns-clause-files g c = (wrote_reads (run_writes c.args.deck) c.run_deck.result _ _ c.run_deck.ensures.wrote).files
