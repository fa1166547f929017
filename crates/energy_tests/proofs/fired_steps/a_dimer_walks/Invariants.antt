use Rattle.energy_tests.proofs.fired_steps.a_dimer_walks.Given as goal

abbrev pub ghosts-put_and_walk : goal.ghosts-put_and_walk
ghosts-put_and_walk g a = record { name = a.blank.name; parts = a.blank.parts }
