use Rattle.std.proofs.Common.{◌≡◌, drop, map}
use Rattle.deck_shape.specs.Blocks.{block_at}
use Rattle.deck_words.specs.Faults.{all_of, value_map}
use Rattle.energetics_deck.specs.Clusters.{cluster_with, variant_within}
use Rattle.energetics_deck.specs.Views.{common_at, listing_at}
use Rattle.pattern_rows.specs.Listings.{with_variants}
use Rattle.energetics_deck.proofs.clusters.with_variants.Given as goal

-- the clusters so far, and those of the variants that are left, are all of them
abbrev pub invariant-loop-variant : goal.invariant-loop-variant
invariant-loop-variant l =
    with_variants cluster_with (value_map (listing_at l.bytes) l.listing)
    (all_of (map (variant_within (common_at l.bytes l.common) l.sites) (map (block_at l.bytes) (drop l.variant-index l.variants))))
    ≡ with_variants cluster_with (value_map (listing_at l.bytes) l.initial.listing)
    (all_of (map (variant_within (common_at l.bytes l.common) l.sites) (map (block_at l.bytes) l.variants)))
