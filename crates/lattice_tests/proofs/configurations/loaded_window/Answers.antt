-- What was put on a vacant lattice is a whole adsorbate, and a window covers its anchor.
use Rattle.std.proofs.Common.{◌∙◌, ap, arith}
use Rattle.lattice_core.specs.SiteList.{is_listed}
use Rattle.lattice_core.proofs.Balls.{ball-anchor}
use Rattle.lattice_tests.proofs.configurations.loaded_window.Goals as goal

pub clear-requires : goal.clear-requires
clear-requires g c = c.set.ensures.whole (λ _. 1) (c.in_ok-config.ensures.well_formed (λ _. 1))

pub shown-requires : goal.shown-requires
shown-requires g c =
    ap (λ sites. is_listed sites 0) c.in_ok-load.ensures.covers ∙ ball-anchor c.in_ok-lattice.lattice 0 1 (omega (arith, c.len.ensures.count))
