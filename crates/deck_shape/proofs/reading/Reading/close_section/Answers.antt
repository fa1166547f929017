use Rattle.deck_shape.proofs.OpenBlocks.{pushed, section_read, section_same}
use Rattle.deck_shape.specs.Blocks.{block_at, section_at}
use Rattle.deck_shape.specs.Reading.{closed}
use Rattle.deck_shape.specs.Views.{reading_at}
use Rattle.deck_shape.proofs.reading.Reading.close_section.Goals as goal

pub returns : goal.returns
returns c text =
    let inner = closed c.args.end_line (block_at text c.args.self.block) in
    section_read text c.args.end_line c.args.file c.new-2.result.items c.new-3.result.items c.push.new.self.items (reading_at text c.args.self)
    c.new-2.ensures.items c.new-3.ensures.items
    (pushed (section_at text) c.args.self.sections.items c.push.new.self.items _ _ c.in_ok-push.ensures.items
    (section_same text c.closed.result c.new.result c.args.self.variants.items inner (c.closed.ensures text) c.new.ensures))
