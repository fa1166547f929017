use Rattle.std.proofs.Common.{◌≡◌, ◌∙◌, IfOk, ap, map, subst, sym}
use Rattle.std.specs.Result.{result_ok}
use Rattle.std.specs.declared.alloc.Global.{Global}
use Rattle.std.specs.declared.vec.Vec.{Vec}
use Rattle.deck_shape.specs.Blocks.{block_at, section_at}
use Rattle.deck_words.specs.Faults.{all_of, both, value_map, with_fault}
use Rattle.energetics_deck.specs.Clusters.{CommonValues, cluster_with, common_values, own_fault, pattern_in, variant_within}
use Rattle.energetics_deck.specs.Shares.{IsEnergy}
use Rattle.energetics_deck.specs.Views.{clusters_at, common_at, listing_at, pattern_at}
use Rattle.energetics_deck.specs.declared.part.ClusterPart.{ClusterPart}
use Rattle.pattern_rows.specs.Listings.{joined, made_of, with_variants}
use Rattle.pattern_rows.specs.Sites.{sites_in}
use Rattle.pattern_rows.specs.Variants.{variants_of}
use Rattle.pattern_rows.proofs.ListedVariants.{mapped_twice, section_read}
use Rattle.energetics_deck.proofs.SoundVariants.{common_energy}
use Rattle.energetics_deck.proofs.clusters.with_section.Goals as goal

pub with_variants-requires-clause-energy : goal.with_variants-requires-clause-energy
with_variants-requires-clause-energy c =
    let block = block_at c.args.bytes.now c.args.section.now.block in
    let P : CommonValues → Type 0 = λ common. IfOk common.energy IsEnergy in
    subst P (sym c.in_ok-common.ensures) (common_energy c.ok.result block)

pub returns : goal.returns
returns c =
    let text = c.args.bytes.now in
    let section = section_at text c.args.section.now in
    let block = section.block in
    let sites = result_ok (sites_in block) in
    let at = λ (list : Vec ClusterPart Global). clusters_at text list.items in
    let before = value_map at c.args.clusters in
    let pattern = value_map (pattern_at text) c.in_ok-pattern.pattern in
    let common = common_at text c.in_ok-common.common in
    let blocks = map (block_at text) c.variants_of-variants.result.now in
    let variants = all_of (map (variant_within common c.ok-3.result) blocks) in
    let stated = ap result_ok c.sites_in-sites.ensures.value in
    let common_is = c.in_ok-common.ensures ∙ ap (λ s. common_values s block) (c.ok.ensures.value ∙ stated) in
    let own_is = c.own_fault-own.ensures ∙ ap (λ s. own_fault s block) (c.ok-2.ensures.value ∙ stated) in
    let variants_are : variants ≡ all_of (map (variant_within (common_values sites block) sites) (variants_of section)) =
    ap (λ w. all_of (map (variant_within w c.ok-3.result) blocks)) common_is
    ∙ ap (λ s. all_of (map (variant_within (common_values sites block) s) blocks)) (c.ok-3.ensures.value ∙ stated)
    ∙ ap (λ bs. all_of (map (variant_within (common_values sites block) sites) bs)) (c.variants_of-variants.ensures text) in
    ap (value_map at) c.without_pattern.ensures
    ∙ mapped_twice at (λ found. found.0) c.in_ok-all.all
    ∙ c.in_ok-all.ensures
    ∙ ap (λ listing. with_variants cluster_with (value_map (listing_at text) listing) variants) (c.both-listing.ensures ∙ ap (both c.args.clusters) c.with_fault.ensures)
    ∙ section_read cluster_with at (pattern_at text) c.args.clusters c.own_fault-own.result c.in_ok-pattern.pattern variants
    ∙ ap (λ own. joined before (with_fault own (made_of cluster_with pattern variants))) own_is
    ∙ ap (λ p. joined before (with_fault (own_fault sites block) (made_of cluster_with p variants))) c.in_ok-pattern.ensures
    ∙ ap (λ vs. joined before (with_fault (own_fault sites block) (made_of cluster_with (pattern_in block) vs))) variants_are
