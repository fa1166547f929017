use Rattle.energy_tests.proofs.configuration_energies.energies_of_configurations.Given as goal

abbrev pub ghosts-energy_of : goal.ghosts-energy_of
ghosts-energy_of g a = record { name = a.blank.name; parts = a.blank.parts }
