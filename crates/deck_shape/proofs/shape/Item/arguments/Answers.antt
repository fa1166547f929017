use Rattle.std.proofs.Common.{◌∙◌, ap, map}
use Rattle.dec_text.proofs.Spans.{map-bytes_at}
use Rattle.deck_shape.proofs.shape.Item.arguments.Goals as goal

pub returns-clause-words : goal.returns-clause-words
returns-clause-words c text = map-bytes_at text c.arguments.result.now ∙ ap (map (λ word. word.bytes)) (c.arguments.ensures text)
