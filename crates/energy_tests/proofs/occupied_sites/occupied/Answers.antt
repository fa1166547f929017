use Rattle.std.proofs.Common.{ℕ, List, slice_index, ap, ◌∙◌}
use Rattle.energy_tests.proofs.occupied_sites.occupied.Goals as goal

pub loop-site-preserved : goal.loop-site-preserved
loop-site-preserved g c = record {
  long = c.put.ensures.long ∙ c.loop-site.invariant.long;
  well_formed = c.put.ensures.well_formed (λ s. slice_index c.args.dentates.now s) (ap (λ (ds : List ℕ). slice_index ds 0) c.requires)
      c.loop-site.invariant.well_formed;
}
