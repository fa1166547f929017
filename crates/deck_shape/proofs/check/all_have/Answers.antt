use Rattle.std.proofs.Common.{◌∙◌, sym}
use Rattle.std.proofs.lemmas.List.Folds.{list_all-map}
use Rattle.deck_shape.specs.Blocks.{BlockLines, block_at, stands}
use Rattle.deck_shape.proofs.check.all_have.Goals as goal

pub returns : goal.returns
returns c =
    c.each_has.ensures
    ∙ sym (list_all-map (λ (block : BlockLines). stands c.args.keyword block.items) (block_at c.args.bytes.now) c.args.blocks.now)
