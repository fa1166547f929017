use Rattle.std.proofs.Common.{◌≡◌, ◌+◌, ◌<◌, length, take, ap, ◌∙◌, sym, subst, arith, rules, ◌∷◌, []}
use Rattle.std.proofs.lemmas.List.{take-map, length-take-le}
use Rattle.kmc_base.specs.declared.ids.SiteId.{SiteId}
use Rattle.lattice_core.specs.SiteList.{site_numbers}
use Rattle.pattern_types.specs.Parts.{vertex_count}
use Rattle.pattern_list.proofs.Coding.{AgreeTo, anchor-agrees, next-site, agree-next, agree-take, sites-agree, some-site, site-is}
use Rattle.pattern_list.proofs.Conditions.{sites-from}
use Rattle.pattern_list.proofs.ChangedSites.{length-with}
use Rattle.pattern_list.proofs.Numbers.{length-numbers}
use Rattle.pattern_list.proofs.code.decode.Goals as goal

pub loop-place-init : goal.loop-place-init
loop-place-init c = record {
  long = search rules;
  agrees = λ process sites is. anchor-agrees c.args.graph.now c.args.pattern.now c.args.code process
      (c.anchor_in_code.result.0 ∷ 0 ∷ 0 ∷ 0 ∷ 0 ∷ 0 ∷ 0 ∷ 0 ∷ []) sites c.len.ensures.lattice
      c.len-place-end.ensures.sound c.anchor_in_code.ensures is;
}

pub at_slot-requires : goal.at_slot-requires
at_slot-requires c =
    let count = c.len-place-end.ensures.value in
    let test = c.loop-place-test.true in
    let next = next-site c.args.graph.now c.args.pattern.now c.args.code c.requires.0
    (site_numbers c.loop-place.sites) c.requires.1 c.loop-place.place c.parent_of.result c.site_of-parent.result.0
    c.slot_in_code.result c.len.ensures.lattice c.len-place-end.ensures.sound c.requires.2 c.loop-place.auto.place
    (omega arith)
    (c.loop-place.invariant.agrees c.requires.0 c.requires.1 c.requires.2) c.site_of-parent.ensures
    c.parent_of.ensures.value c.slot_in_code.ensures in
    record { site = next.inside }

pub unwrap-site-requires : goal.unwrap-site-requires
unwrap-site-requires c =
    let count = c.len-place-end.ensures.value in
    let test = c.loop-place-test.true in
    let next = next-site c.args.graph.now c.args.pattern.now c.args.code c.requires.0
    (site_numbers c.loop-place.sites) c.requires.1 c.loop-place.place c.parent_of.result c.site_of-parent.result.0
    c.slot_in_code.result c.len.ensures.lattice c.len-place-end.ensures.sound c.requires.2 c.loop-place.auto.place
    (omega arith)
    (c.loop-place.invariant.agrees c.requires.0 c.requires.1 c.requires.2) c.site_of-parent.ensures
    c.parent_of.ensures.value c.slot_in_code.ensures in
    some-site c.at_slot.result _ (c.at_slot.ensures.value ∙ next.is)

pub loop-place-preserved : goal.loop-place-preserved
loop-place-preserved c =
    let p = c.args.pattern.now in
    let so_far = site_numbers c.loop-place.sites in
    let long : length so_far ≡ 8 = length-numbers c.loop-place.sites ∙ c.loop-place.invariant.long in
    let with = c.with_site-sites.ensures in
    let count = c.len-place-end.ensures.value in
    let test = c.loop-place-test.true in
    let low : c.loop-place.place < vertex_count p = omega arith in
    record {
      long = sym (length-numbers c.with_site-sites.result) ∙ ap length with ∙ length-with so_far c.vertex_at.result c.unwrap-site.result.0 ∙ long;
      agrees = λ process sites is.
          let agree = c.loop-place.invariant.agrees process sites is in
          let next = next-site c.args.graph.now p c.args.code process so_far sites c.loop-place.place
          c.parent_of.result c.site_of-parent.result.0 c.slot_in_code.result c.len.ensures.lattice
          c.len-place-end.ensures.sound is c.loop-place.auto.place low
          agree c.site_of-parent.ensures c.parent_of.ensures.value c.slot_in_code.ensures in
          let site = site-is c.at_slot.result c.unwrap-site.result _ (c.at_slot.ensures.value ∙ next.is) c.unwrap-site.ensures in
          subst (λ xs. AgreeTo p xs sites (c.loop-place.place + 1)) (sym with)
          (agree-next p so_far sites c.loop-place.place c.vertex_at.result c.unwrap-site.result.0
          c.len-place-end.ensures.sound long low c.vertex_at.ensures.value site agree);
    }

pub returns : goal.returns
returns c process sites is =
    let p = c.args.pattern.now in
    let n = vertex_count p in
    let so_far = site_numbers c.loop-place.sites in
    let sound = c.len-place-end.ensures.sound in
    let some = sound.some in
    let few = sound.few in
    let count = c.len-place-end.ensures.value in
    let test = c.loop-place-test.false in
    let end = c.loop-place.auto.place-end in
    let last : c.loop-place.place ≡ n = omega arith in
    let taken : c.from.result ≡ n = c.from.ensures ∙ c.len-2.ensures.value in
    let long : length so_far ≡ 8 = length-numbers c.loop-place.sites ∙ c.loop-place.invariant.long in
    let made : site_numbers c.new.result ≡ take n so_far
    = ap site_numbers (c.new.ensures ∙ ap (λ k. take k c.loop-place.sites) taken) ∙ sym (take-map (λ (s : SiteId). s.0) n c.loop-place.sites) in
    made ∙ sites-agree p (take n so_far) sites sound (length-take-le n so_far (omega arith)) (sites-from _ _ _ is.placed.vertices).long
    (agree-take p so_far sites sound (subst (AgreeTo p so_far sites) last (c.loop-place.invariant.agrees process sites is)))
