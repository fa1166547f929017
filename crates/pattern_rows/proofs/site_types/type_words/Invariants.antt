use Rattle.std.proofs.Common.{◌≡◌, ◌++◌, drop, map}
use Rattle.std.specs.List.{flat_map}
use Rattle.deck_shape.specs.Blocks.{section_at}
use Rattle.deck_shape.specs.Names.{name_at}
use Rattle.pattern_rows.specs.TypeWords.{section_types}
use Rattle.pattern_rows.proofs.site_types.type_words.Given as goal

-- the words so far, and those of the blocks that are left, are all of them
abbrev pub invariant-loop-section : goal.invariant-loop-section
invariant-loop-section l =
    map (name_at l.bytes) l.words.items ++ flat_map section_types (map (section_at l.bytes) (drop l.section-index l.sections))
    ≡ flat_map section_types (map (section_at l.bytes) l.sections)
