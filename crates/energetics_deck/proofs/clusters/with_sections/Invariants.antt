use Rattle.std.proofs.Common.{◌≡◌, drop, map}
use Rattle.deck_shape.specs.Blocks.{section_at}
use Rattle.deck_words.specs.Faults.{all_of, value_map}
use Rattle.energetics_deck.specs.Clusters.{clusters_of}
use Rattle.energetics_deck.specs.Views.{clusters_at}
use Rattle.pattern_rows.specs.Listings.{joined}
use Rattle.pattern_rows.proofs.ListedVariants.{together}
use Rattle.energetics_deck.proofs.clusters.with_sections.Given as goal

-- the clusters so far, and those of the blocks that are left, are all of them
abbrev pub invariant-loop-section : goal.invariant-loop-section
invariant-loop-section l =
    joined (value_map (λ list. clusters_at l.bytes list.items) l.clusters)
    (together (all_of (map clusters_of (map (section_at l.bytes) (drop l.section-index l.sections)))))
    ≡ joined (value_map (λ list. clusters_at l.bytes list.items) l.initial.clusters)
    (together (all_of (map clusters_of (map (section_at l.bytes) l.sections))))
