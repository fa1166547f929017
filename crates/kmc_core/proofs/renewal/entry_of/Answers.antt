use Rattle.kmc_core.proofs.MergedEntries.{no_entry}
use Rattle.kmc_core.proofs.renewal.entry_of.Goals as goal

pub returns-in-len1-up-2 : goal.returns-in-len1-up-2
returns-in-len1-up-2 c = no_entry c.args.code _ c.args.entries.now c.requires.rising c.requires.reached c.if-entry-code.false
