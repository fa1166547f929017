-- What the reader has so far, as lists of lines. Not part of what is promised: no public contract cites this.
use Rattle.std.specs.Prelude.{ℕ, List, map, reverse}
use Rattle.deck_shape.specs.Blocks.{block_at, section_at}
use Rattle.deck_shape.specs.Reading.{SoFar}
use Rattle.deck_shape.specs.declared.reading.Reading.{Reading}

-- what a reader has so far, as its text has it; the last of its open blocks is the innermost
abbrev pub reading_at : List ℕ → Reading → SoFar
reading_at text reading = record {
  block = block_at text reading.block;
  below = reading.below;
  around = reverse (map (block_at text) reading.around.items);
  variants = map (block_at text) reading.variants.items;
  sections = map (section_at text) reading.sections.items;
}
