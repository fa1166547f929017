use Rattle.std.proofs.Common.{◌≡◌, ◌∙◌, ap, map}
use Rattle.std.specs.Result.{result_ok}
use Rattle.std.specs.declared.alloc.Global.{Global}
use Rattle.std.specs.declared.vec.Vec.{Vec}
use Rattle.deck_shape.specs.Blocks.{block_at, section_at}
use Rattle.deck_words.specs.Faults.{all_of, both, value_map, with_fault}
use Rattle.mechanism_deck.specs.Steps.{body_in, common_values, has_variants, own_fault, step_with, variant_within}
use Rattle.mechanism_deck.specs.Views.{body_at, common_at, listing_at, steps_at}
use Rattle.mechanism_deck.specs.declared.part.StepPart.{StepPart}
use Rattle.pattern_rows.specs.Listings.{joined, made_of, with_variants}
use Rattle.pattern_rows.specs.Sites.{sites_in}
use Rattle.pattern_rows.specs.Variants.{variants_of}
use Rattle.pattern_rows.proofs.ListedVariants.{mapped_twice, section_read}
use Rattle.mechanism_deck.proofs.steps.with_section.Goals as goal

pub returns : goal.returns
returns c =
    let text = c.args.bytes.now in
    let section = section_at text c.args.section.now in
    let block = section.block in
    let sites = result_ok (sites_in block) in
    let named = has_variants section in
    let at = λ (list : Vec StepPart Global). steps_at text list.items in
    let before = value_map at c.args.steps in
    let body = value_map (body_at text) c.in_ok-body.body in
    let common = common_at text c.in_ok-common.common in
    let blocks = map (block_at text) c.variants_of-variants.result.now in
    let variants = all_of (map (variant_within common c.has_variants-named.result c.ok-3.result) blocks) in
    let stated = ap result_ok c.sites_in-sites.ensures.value in
    let common_is = c.in_ok-common.ensures ∙ ap (λ s. common_values s block) (c.ok.ensures.value ∙ stated) in
    let own_is = c.own_fault-own.ensures ∙ ap (λ s. own_fault s block) (c.ok-2.ensures.value ∙ stated) in
    let variants_are : variants ≡ all_of (map (variant_within (common_values sites block) named sites) (variants_of section)) =
    ap (λ w. all_of (map (variant_within w c.has_variants-named.result c.ok-3.result) blocks)) common_is
    ∙ ap (λ n. all_of (map (variant_within (common_values sites block) n c.ok-3.result) blocks)) (c.has_variants-named.ensures text)
    ∙ ap (λ s. all_of (map (variant_within (common_values sites block) named s) blocks)) (c.ok-3.ensures.value ∙ stated)
    ∙ ap (λ bs. all_of (map (variant_within (common_values sites block) named sites) bs)) (c.variants_of-variants.ensures text) in
    ap (value_map at) c.without_body.ensures
    ∙ mapped_twice at (λ found. found.0) c.in_ok-all.all
    ∙ c.in_ok-all.ensures
    ∙ ap (λ listing. with_variants step_with (value_map (listing_at text) listing) variants)
    (c.both-listing.ensures ∙ ap (both c.args.steps) c.with_fault.ensures)
    ∙ section_read step_with at (body_at text) c.args.steps c.own_fault-own.result c.in_ok-body.body variants
    ∙ ap (λ own. joined before (with_fault own (made_of step_with body variants))) own_is
    ∙ ap (λ b. joined before (with_fault (own_fault sites block) (made_of step_with b variants))) c.in_ok-body.ensures
    ∙ ap (λ vs. joined before (with_fault (own_fault sites block) (made_of step_with (body_in block) vs))) variants_are
