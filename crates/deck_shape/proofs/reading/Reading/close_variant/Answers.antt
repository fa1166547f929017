use Rattle.std.proofs.Common.{List, ap, map, reverse}
use Rattle.deck_shape.proofs.OpenBlocks.{pushed}
use Rattle.deck_shape.specs.Blocks.{BlockLines, block_at, section_at}
use Rattle.deck_shape.specs.Reading.{SoFar, closed}
use Rattle.deck_shape.specs.declared.reading.Below.TheVariants.{Words}
use Rattle.deck_shape.proofs.reading.Reading.close_variant.Goals as goal

pub returns : goal.returns
returns c text =
    let with_variants : List BlockLines → SoFar = λ variants. record {
      block = block_at text c.args.section;
      below = Words;
      around = reverse (map (block_at text) c.args.self.around.items);
      variants = variants;
      sections = map (section_at text) c.args.self.sections.items;
    } in
    ap with_variants (pushed (block_at text) c.args.self.variants.items c.push.new.self.items c.closed.result
    (closed c.args.end_line (block_at text c.args.self.block)) c.in_ok-push.ensures.items (c.closed.ensures text))
