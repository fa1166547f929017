use Rattle.std.proofs.Common.{◌≤◌, ap, arith, length, map}
use Rattle.std.proofs.lemmas.List.{length-map}
use Rattle.std.proofs.lemmas.Result.{IfOk-at_ok}
use Rattle.deck_join.proofs.Chains.{was_read}
use Rattle.deck_join.proofs.SoundClusters.{clusters_are}
use Rattle.deck_join.proofs.SoundDecks.{distinct_at}
use Rattle.deck_join.proofs.SoundSteps.{AreSoundSteps, steps_are}
use Rattle.deck_join.specs.SoundValues.{AreSoundClusters}
use Rattle.deck_join.specs.Views.{bytes_of, named_steps_at, values_at}
use Rattle.kmc_base.specs.declared.ids.FileId.TheVariants.{Energetics, Mechanism}
use Rattle.kmc_base.specs.declared.limits.TheConstants.{MAX_SPECIES}
use Rattle.species_book.specs.Book.{Book}
use Rattle.deck_join.proofs.names.names_in.Goals as goal

pub returns-clause-sound : goal.returns-clause-sound
returns-clause-sound c =
    let values = values_at (bytes_of c.args.files.now) c.args.parts.now in
    let type_names = map (λ name. name.items) c.as_slice-type_names.result.now in
    let names = c.requires.sound.simulation.gas in
    let distinct = distinct_at c.args.book.now.gas _ (ap (λ (b : Book). b.gas) c.requires.book) names.differ in
    let few : length c.args.book.now.gas ≤ MAX_SPECIES = omega (arith, names.few, ap (λ (b : Book). length b.gas) c.requires.book, length-map values.simulation.gas (λ name. name.word.bytes)) in
    let clusters = IfOk-at_ok (AreSoundClusters c.args.book.now)
    (was_read Energetics (λ all. all.items) c.in_ok-clusters.clusters c.in_ok-clusters-2.clusters _ c.in_ok-clusters-2.ensures c.in_ok-clusters.ensures)
    (clusters_are c.args.book.now type_names values.energetics c.requires.sound.energetics) in
    let steps = IfOk-at_ok (AreSoundSteps c.args.book.now)
    (was_read Mechanism (λ all. named_steps_at c.args.files.now.mechanism.now all.items) c.in_ok-steps.steps c.in_ok-steps-2.steps _ c.in_ok-steps-2.ensures c.in_ok-steps.ensures)
    (steps_are c.args.book.now type_names values.mechanism distinct few c.requires.sound.mechanism) in
    record { clusters = clusters; steps = steps.sound; whole = steps.whole; few = steps.few }
