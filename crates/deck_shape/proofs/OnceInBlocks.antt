-- in each block of a whole file no word is twice that it may have once
use Rattle.std.proofs.Common.{List, [], ◌∷◌}
use Rattle.std.specs.List.{AllByRecursion}
use Rattle.deck_shape.specs.Blocks.{BlockLines, FileLines, OfEachBlock, SectionLines}
use Rattle.deck_shape.specs.WholeBlocks.{HasOnceWords, IsWholeFile, IsWholeSection, IsWholeVariant}
use Rattle.deck_words.specs.declared.table.BlockForm.{BlockForm}

of_variants : (outer : BlockForm) (variants : List BlockLines) → AllByRecursion (IsWholeVariant outer) variants
    → AllByRecursion HasOnceWords variants
of_variants outer [] all = tt
of_variants outer (variant ∷ variants) all = (all.0.whole.once, of_variants outer variants all.1)

of_sections : (outer : BlockForm) (sections : List SectionLines) → AllByRecursion (IsWholeSection outer) sections
    → AllByRecursion (λ section. HasOnceWords section.block × AllByRecursion HasOnceWords section.variants) sections
of_sections outer [] all = tt
of_sections outer (section ∷ sections) all = (
  (all.0.whole.once, of_variants section.block.form section.variants all.0.variants),
  of_sections outer sections all.1,
)

pub once_in_blocks : (file : FileLines) → IsWholeFile file → OfEachBlock HasOnceWords file
once_in_blocks file whole = (whole.block.once, of_sections file.block.form file.sections whole.sections)
