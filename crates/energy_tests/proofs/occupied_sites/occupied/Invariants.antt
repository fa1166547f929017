use Rattle.std.proofs.Common.{◌≡◌, length, slice_index}
use Rattle.lattice_core.specs.Config.{IsWellFormed}
use Rattle.energy_tests.proofs.occupied_sites.occupied.Given as goal

abbrev pub invariant-loop-site : goal.invariant-loop-site
invariant-loop-site g l = record {
  long : length l.config ≡ l.count;
  well_formed : IsWellFormed (λ s. slice_index l.dentates s) l.config;
}
