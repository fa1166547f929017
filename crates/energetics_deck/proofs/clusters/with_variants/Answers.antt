use Rattle.std.proofs.Common.{◌∙◌, ◌+◌, IfOk, List, ap, drop, map, subst, sym}
use Rattle.std.proofs.lemmas.Result.{IfOk-weaker}
use Rattle.deck_shape.specs.Blocks.{block_at}
use Rattle.deck_shape.specs.Names.{NameWord}
use Rattle.deck_values.proofs.EarliestFaults.{next_left}
use Rattle.deck_words.specs.Faults.{all_of, value_map}
use Rattle.energetics_deck.specs.Clusters.{VariantValues, cluster_with, variant_within}
use Rattle.energetics_deck.specs.Shares.{AreInRange}
use Rattle.energetics_deck.specs.Views.{common_at, listing_at, variant_at}
use Rattle.pattern_rows.specs.Listings.{with_next, with_variants}
use Rattle.pattern_rows.proofs.HeldParts.{any-holds}
use Rattle.pattern_rows.proofs.ListedVariants.{next_variant, unmapped-holds}
use Rattle.energetics_deck.proofs.SoundVariants.{within-holds}
use Rattle.energetics_deck.proofs.clusters.with_variants.Goals as goal

pub with_next-requires : goal.with_next-requires
with_next-requires c =
    let text = c.args.bytes.now in
    let common = common_at text c.args.common.now in
    let block = block_at text c.variant-item.result in
    let Are : VariantValues → Type 0 = λ v. AreInRange v.energy v.multiplicity in
    unmapped-holds Are (variant_at text) c.in_ok-values.values
    (subst (λ r. IfOk r Are) (sym c.in_ok-values.ensures)
    (IfOk-weaker (variant_within common c.args.sites block) _ Are (λ v holds. holds.1)
    (within-holds (λ (types : List NameWord). Unit {0}) common c.args.sites block c.requires.multiplicity c.requires.energy (any-holds _))))

pub loop-variant-preserved : goal.loop-variant-preserved
loop-variant-preserved c =
    let text = c.args.bytes.now in
    let values = variant_within (common_at text c.args.common.now) c.args.sites in
    let variants = c.args.variants.now in
    let variant = c.variant-item.result in
    let i = c.loop-variant.variant-index in
    let before = value_map (listing_at text) c.loop-variant.listing in
    let left = all_of (map values (map (block_at text) (drop (i + 1) variants))) in
    ap (λ listing. with_variants cluster_with listing left) (c.in_ok-listing.ensures text ∙ ap (with_next cluster_with before) c.in_ok-values.ensures)
    ∙ next_variant cluster_with before (values (block_at text variant)) left
    ∙ ap (λ blocks. with_variants cluster_with before (all_of (map values blocks)))
    (sym (next_left (block_at text) variants i variant c.loop-variant-test.true c.variant-item.is))
    ∙ c.loop-variant.invariant
