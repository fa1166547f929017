use Rattle.std.proofs.Common.{◌∙◌, ◌+◌, ap, drop, map, sym}
use Rattle.deck_shape.specs.Blocks.{block_at}
use Rattle.deck_values.proofs.EarliestFaults.{next_left}
use Rattle.deck_words.specs.Faults.{all_of, value_map}
use Rattle.mechanism_deck.specs.Steps.{step_with, variant_within}
use Rattle.mechanism_deck.specs.Views.{common_at, listing_at}
use Rattle.pattern_rows.specs.Listings.{with_next, with_variants}
use Rattle.pattern_rows.proofs.ListedVariants.{next_variant}
use Rattle.mechanism_deck.proofs.steps.with_variants.Goals as goal

pub loop-variant-preserved : goal.loop-variant-preserved
loop-variant-preserved c =
    let text = c.args.bytes.now in
    let values = variant_within (common_at text c.args.common.now) c.args.named c.args.sites in
    let variants = c.args.variants.now in
    let variant = c.variant-item.result in
    let i = c.loop-variant.variant-index in
    let before = value_map (listing_at text) c.loop-variant.listing in
    let left = all_of (map values (map (block_at text) (drop (i + 1) variants))) in
    ap (λ listing. with_variants step_with listing left) (c.in_ok-listing.ensures text ∙ ap (with_next step_with before) c.in_ok-values.ensures)
    ∙ next_variant step_with before (values (block_at text variant)) left
    ∙ ap (λ blocks. with_variants step_with before (all_of (map values blocks)))
    (sym (next_left (block_at text) variants i variant c.loop-variant-test.true c.variant-item.is))
    ∙ c.loop-variant.invariant
