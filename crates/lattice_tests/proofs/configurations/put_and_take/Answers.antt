-- What was put on a vacant lattice is a whole adsorbate, whose species has two dentates.
use Rattle.lattice_tests.proofs.configurations.put_and_take.Goals as goal

pub clear-requires : goal.clear-requires
clear-requires g c = c.set.ensures.whole (λ _. 2) (c.in_ok-config.ensures.well_formed (λ _. 2))
