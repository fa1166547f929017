use Rattle.std.proofs.Common.{◌∙◌, ap, sym}
use Rattle.deck_words.specs.Faults.{both}
use Rattle.mechanism_deck.proofs.BodyParts.{parts_fault}
use Rattle.mechanism_deck.proofs.body.body_of.Goals as goal

pub returns-in-Err : goal.returns-in-Err
returns-in-Err c =
    let sides = c.both-sides.ensures ∙ ap (both c.args.edges) c.both.ensures in
    let all = c.both-3.ensures ∙ ap (both c.args.gas) (c.both-2.ensures ∙ ap (both c.args.sites) sides) in
    sym (parts_fault _ _ _ _ c.args.gas c.args.sites c.args.edges c.args.before c.args.after c.in-Err.fault (sym all ∙ c.in-Err.is))
