use Rattle.std.proofs.Common.{◌≡◌, ℕ, ◌<◌, List, length, get_or, slice_index, ap, sym, ◌∙◌, subst}
use Rattle.lattice_core.specs.Config.{state_at}
use Rattle.rate_rules.specs.Soundness.{IsSoundProcess}
use Rattle.rate_rules.specs.declared.chemistry.Process.{Process}
use Rattle.energy_tests.proofs.Listed.{listed}
use Rattle.energy_tests.proofs.instance_energies.listed_energies.Goals as goal

pub measured-requires : goal.measured-requires
measured-requires g c =
    let process = c.index-as_slice-0.result in
    let dentates = λ (s : ℕ). slice_index c.args.dentates.now s in
    let at : process ≡ get_or c.args.chem.now.processes 0 process =
    c.index-as_slice-0.is ∙ ap (λ (l : List Process). get_or l 0 process) c.as_slice.ensures in
    let sound : IsSoundProcess dentates process =
    subst (λ (x : Process). IsSoundProcess dentates x) (sym at) (c.requires.sound.processes 0 process c.requires.some) in
    let inside : c.args.instance < length c.in_ok-found.found.items =
    subst (λ (n : ℕ). c.args.instance < n) (c.len.ensures ∙ c.in_ok-found.found.ok.0) c.if-instance-len.false in
    let parts = listed c.args.chem.now.graph (state_at c.args.config.now) process.before c.in_ok-found.found.items c.args.instance
    c.index.result.now c.in_ok-found.ensures.listing inside c.index.ensures in
    record {
      placed = record { dentates = dentates; chemistry_sound = c.requires.sound; process_sound = sound; placed = parts.0 };
      long = c.requires.long;
      well_formed = c.requires.well_formed;
      matches = parts.1;
    }
