use Rattle.std.proofs.Common.{◌≤◌, length}
use Rattle.std.proofs.lemmas.Result.{IfOk-weaker}
use Rattle.deck_shape.specs.Blocks.{block_at}
use Rattle.lattice_deck.proofs.FewTypes.{few_names}
use Rattle.site_rows.specs.declared.type_word.TheConstants.{MAX_SITE_TYPES}
use Rattle.lattice_deck.proofs.reader.read.Goals as goal

pub returns-clause-few_types : goal.returns-clause-few_types
returns-clause-few_types c =
    IfOk-weaker c.read_block.result _ (λ part. length part.type_names ≤ MAX_SITE_TYPES)
    (λ part is. few_names (block_at c.args.bytes.now c.args.shape.now.block) c.args.bytes.now part is) c.read_block.ensures.values
