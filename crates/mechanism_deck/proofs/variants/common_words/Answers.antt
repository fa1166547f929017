use Rattle.std.proofs.Common.{◌∙◌, ap, map, Ok, Err}
use Rattle.deck_shape.specs.Blocks.{block_at}
use Rattle.deck_shape.specs.Names.{name_at}
use Rattle.mechanism_deck.specs.Steps.{activation_or, pe_ratio_or, pre_expon_or}
use Rattle.pattern_rows.specs.Types.{types_or}
use Rattle.mechanism_deck.proofs.CommonParts.{fault_is, same_common}
use Rattle.mechanism_deck.proofs.variants.common_words.Goals as goal

pub returns : goal.returns
returns c =
    let text = c.args.bytes.now in
    let step = block_at text c.args.step.now in
    let missing = fault_is c.missing_word.result _ _ c.missing_word.ensures.line c.missing_word.ensures.kind in
    let missing_too = fault_is c.missing_word-2.result _ _ c.missing_word-2.ensures.line c.missing_word-2.ensures.kind in
    same_common _ _ _ _ _ _ _ _ _ _
    (c.in_ok-types_or.ensures ∙ ap (λ types. types_or (Ok (map (name_at text) types)) c.args.sites step) c.new.ensures.items)
    (c.pre_expon_or.ensures ∙ ap (λ fault. pre_expon_or (Err fault) step) missing)
    (c.pe_ratio_or.ensures ∙ ap (λ absent. pe_ratio_or absent step) (c.absent_ratio.ensures text))
    (c.activation_or.ensures ∙ ap (λ fault. activation_or (Err fault) step) missing_too)
    c.proximity_or.ensures
