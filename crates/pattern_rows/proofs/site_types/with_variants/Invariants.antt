use Rattle.std.proofs.Common.{◌≡◌, ◌++◌, drop, filter, map}
use Rattle.std.specs.List.{flat_map}
use Rattle.deck_shape.specs.Blocks.{block_at}
use Rattle.deck_shape.specs.Names.{name_at}
use Rattle.pattern_rows.specs.TypeWords.{is_on_side, own_types}
use Rattle.pattern_rows.proofs.site_types.with_variants.Given as goal

-- the words so far, and those of the variants that are left, are all of them
abbrev pub invariant-loop-variant : goal.invariant-loop-variant
invariant-loop-variant l =
    map (name_at l.bytes) l.words.items
    ++ flat_map own_types (filter (is_on_side l.above l.line) (map (block_at l.bytes) (drop l.variant-index l.variants)))
    ≡ map (name_at l.bytes) l.initial.words.items
    ++ flat_map own_types (filter (is_on_side l.above l.line) (map (block_at l.bytes) l.variants))
