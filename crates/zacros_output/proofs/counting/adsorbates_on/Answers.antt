use Rattle.std.proofs.Common.{◌≡◌, ◌∙◌, ap, length}
use Rattle.std.proofs.lemmas.List.{length-map}
use Rattle.std.proofs.lemmas.Result.{IfOk-weaker}
use Rattle.zacros_output.proofs.CountLemmas.{homes_are, homes_of}
use Rattle.zacros_output.specs.Adsorbates.{adsorbates}
use Rattle.zacros_output.proofs.counting.adsorbates_on.Goals as goal

pub returns : goal.returns
returns g c =
    let deck = c.args.deck.now in
    let classes = c.classes.result.now in
    let species = length c.surface_names.result.now in
    IfOk-weaker c.count_homes.result (λ counts. counts.items ≡ homes_of classes species)
    (λ counts. counts.items ≡ adsorbates deck.book c.args.config.now)
    (λ counts is. is ∙ homes_are deck classes c.args.config.now species c.requires.deck c.requires.well_formed c.classes.ensures.classes
    (simp length-map at (ap length c.surface_names.ensures.names))) c.count_homes.ensures
