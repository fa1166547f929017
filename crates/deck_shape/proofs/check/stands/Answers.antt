use Rattle.std.proofs.Common.{◌∙◌, ap, is_some}
use Rattle.deck_shape.proofs.Maps.{is_some-copied, is_some-find-map}
use Rattle.deck_shape.specs.Blocks.{has_keyword, item_at}
use Rattle.deck_shape.proofs.check.stands.Goals as goal

pub returns : goal.returns
returns c =
    c.is_some.ensures
    ∙ is_some-copied c.first_item.result
    ∙ ap is_some c.first_item.ensures
    ∙ is_some-find-map (has_keyword c.args.keyword) (item_at c.args.bytes.now) c.args.items.now
