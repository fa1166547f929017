use Rattle.std.proofs.Common.{◌≡◌, ◌∙◌, Ok, ap, sym}
use Rattle.std.proofs.lemmas.Result.{IfOk-at_ok}
use Rattle.deck_shape.specs.Blocks.{file_at}
use Rattle.deck_words.specs.Faults.{value_map}
use Rattle.mechanism_deck.proofs.SoundParts.{sound_part}
use Rattle.mechanism_deck.specs.Parts.{part_of}
use Rattle.mechanism_deck.specs.Soundness.{IsSoundPart}
use Rattle.mechanism_deck.specs.Views.{values_at}
use Rattle.mechanism_deck.proofs.reader.read.Goals as goal

pub returns-in-Ok-clause-sound : goal.returns-in-Ok-clause-sound
returns-in-Ok-clause-sound c =
    let text = c.args.bytes.now in
    let file = file_at text c.args.shape.now in
    let is : part_of file ≡ Ok (values_at text c.in-Ok.part) = sym c.in_ok-part.ensures ∙ ap (value_map (values_at text)) c.in-Ok.is in
    IfOk-at_ok IsSoundPart is (sound_part file)
