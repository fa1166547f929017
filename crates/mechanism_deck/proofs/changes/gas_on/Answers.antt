use Rattle.std.proofs.Common.{◌∙◌, ap, map, take}
use Rattle.deck_words.specs.Faults.{value_map}
use Rattle.mechanism_deck.specs.Changes.{changes_on, pairs_of}
use Rattle.mechanism_deck.specs.Views.{pair_at}
use Rattle.mechanism_deck.specs.declared.ranges.TheConstants.{MOST_CHANGES}
use Rattle.mechanism_deck.proofs.GasPairs.{pairs_read}
use Rattle.mechanism_deck.proofs.changes.gas_on.Goals as goal

pub returns : goal.returns
returns c =
    let text = c.args.bytes.now in
    let line = c.args.item.now.line.number in
    c.in_ok-few.ensures text
    ∙ ap (value_map (take MOST_CHANGES))
    (c.in_ok-changes.ensures
    ∙ ap (λ pairs. changes_on line (map (pair_at text) pairs)) (c.as_slice.ensures.value ∙ c.in_ok-pairs.ensures)
    ∙ ap (changes_on line) (pairs_read text c.arguments.result.now ∙ ap pairs_of (c.arguments.ensures.runs text)))
