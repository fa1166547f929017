use Rattle.lattice_tests.proofs.configurations.configurations.Given as goal

abbrev pub ghosts-put_and_take : goal.ghosts-put_and_take
ghosts-put_and_take g a = record { name = a.blank.name; parts = a.blank.parts }
