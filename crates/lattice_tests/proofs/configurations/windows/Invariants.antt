use Rattle.lattice_tests.proofs.configurations.windows.Given as goal

abbrev pub ghosts-loaded_window : goal.ghosts-loaded_window
ghosts-loaded_window g a = record { name = a.blank.name; parts = a.blank.parts }
