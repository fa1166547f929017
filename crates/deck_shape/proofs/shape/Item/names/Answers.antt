use Rattle.std.proofs.Common.{◌∙◌, ap, map}
use Rattle.std.proofs.lemmas.Result.{IfOk-weaker}
use Rattle.deck_shape.proofs.NameLists.{names_at}
use Rattle.deck_shape.specs.Names.{name_at, on_line}
use Rattle.deck_shape.proofs.shape.Item.names.Goals as goal

pub returns : goal.returns
returns c =
    let line = c.args.self.now.line.number in
    IfOk-weaker c.names_of.result _ _
    (λ names are text. ap (map (name_at text)) are ∙ names_at text line c.arguments.result.now
    ∙ ap (map (on_line line)) (c.arguments.ensures.runs text))
    c.names_of.ensures
