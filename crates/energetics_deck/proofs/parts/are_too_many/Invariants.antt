use Rattle.std.proofs.Common.{◌≡◌, ℕ, List, drop, map, nat_lt}
use Rattle.deck_shape.specs.Blocks.{section_at}
use Rattle.energetics_deck.specs.Parts.{cluster_count}
use Rattle.pattern_types.specs.declared.limits.TheConstants.{MAX_CLUSTERS}
use Rattle.energetics_deck.proofs.parts.are_too_many.Given as goal

-- the blocks that are left are more than the clusters that are left, if and only if all blocks are too many
abbrev pub invariant-loop-section : goal.invariant-loop-section
invariant-loop-section l =
    (text : List ℕ) → nat_lt l.left (cluster_count (map (section_at text) (drop l.section-index l.sections)))
    ≡ nat_lt MAX_CLUSTERS (cluster_count (map (section_at text) l.sections))
