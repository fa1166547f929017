use Rattle.std.proofs.Common.{◌∙◌, ap}
use Rattle.std.specs.Option.{option_map}
use Rattle.deck_shape.proofs.Maps.{find-map, option_map-copied}
use Rattle.deck_shape.specs.Blocks.{has_keyword, item_at}
use Rattle.deck_shape.proofs.shape.Block.item.Goals as goal

pub returns : goal.returns
returns c =
    let value = item_at c.args.bytes.now in
    option_map-copied value c.first_item.result
    ∙ ap (option_map value) (rw c.as_slice.ensures at c.first_item.ensures)
    ∙ find-map (has_keyword c.args.keyword) value c.args.self.now.items
