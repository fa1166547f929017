use Rattle.std.proofs.Common.{◌≡◌, drop, map}
use Rattle.deck_shape.specs.Blocks.{block_at}
use Rattle.deck_words.specs.Faults.{all_of, value_map}
use Rattle.mechanism_deck.specs.Steps.{step_with, variant_within}
use Rattle.mechanism_deck.specs.Views.{common_at, listing_at}
use Rattle.pattern_rows.specs.Listings.{with_variants}
use Rattle.mechanism_deck.proofs.steps.with_variants.Given as goal

-- the steps so far, and those of the variants that are left, are all of them
abbrev pub invariant-loop-variant : goal.invariant-loop-variant
invariant-loop-variant l =
    with_variants step_with (value_map (listing_at l.bytes) l.listing)
    (all_of (map (variant_within (common_at l.bytes l.common) l.named l.sites) (map (block_at l.bytes) (drop l.variant-index l.variants))))
    ≡ with_variants step_with (value_map (listing_at l.bytes) l.initial.listing)
    (all_of (map (variant_within (common_at l.bytes l.common) l.named l.sites) (map (block_at l.bytes) l.variants)))
