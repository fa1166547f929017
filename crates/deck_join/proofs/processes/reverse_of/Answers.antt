use Rattle.std.proofs.Common.{◌≡◌, ◌∙◌, ap, length}
use Rattle.deck_join.proofs.SoundProcesses.{reversed_are}
use Rattle.deck_join.specs.Gas.{reversed}
use Rattle.deck_join.proofs.processes.reverse_of.Goals as goal

pub consumed_of-requires : goal.consumed_of-requires
consumed_of-requires c =
    let changes : c.deref.result.now ≡ reversed c.args.step.now.changes.gas.items =
    c.deref.ensures.value ∙ c.in_ok-changes.ensures ∙ ap reversed c.as_slice.ensures.value in
    let long : length c.as_slice-fractions.result.now ≡ length c.args.simulation.now.gas =
    ap length c.as_slice-fractions.ensures ∙ c.requires.gases.one_fraction_each in
    rw (changes, long) (reversed_are (length c.args.simulation.now.gas) c.args.step.now.changes.gas.items c.requires.step.gas).species
