use Rattle.kmc_core.proofs.entry_lists.EntryLists.renew.Given as goal

abbrev pub ghosts-renew : goal.ghosts-renew
ghosts-renew a = record { name = a.blank.name; parts = 1 }
