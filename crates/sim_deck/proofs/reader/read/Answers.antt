use Rattle.std.proofs.Common.{◌≡◌, ◌∙◌, Ok, ap, sym}
use Rattle.std.proofs.lemmas.Result.{IfOk-at_ok}
use Rattle.deck_shape.specs.Blocks.{block_at}
use Rattle.deck_words.specs.Faults.{value_map}
use Rattle.sim_deck.proofs.SoundParts.{sound_part}
use Rattle.sim_deck.specs.Soundness.{IsSoundPart}
use Rattle.sim_deck.specs.Values.{part_of, values_at}
use Rattle.sim_deck.proofs.reader.read.Goals as goal

pub returns-in-Ok-clause-sound : goal.returns-in-Ok-clause-sound
returns-in-Ok-clause-sound c =
    let text = c.args.bytes.now in
    let block = block_at text c.args.shape.now.block in
    let is : part_of block ≡ Ok (values_at text c.in-Ok.part) = sym c.in_ok-part.ensures ∙ ap (value_map (values_at text)) c.in-Ok.is in
    IfOk-at_ok IsSoundPart is (sound_part block)
