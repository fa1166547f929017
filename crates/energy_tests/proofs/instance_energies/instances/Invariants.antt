use Rattle.energy_tests.proofs.instance_energies.instances.Given as goal

abbrev pub ghosts-energies_of : goal.ghosts-energies_of
ghosts-energies_of g a = record { name = a.blank.name; parts = a.blank.parts }
