use Rattle.std.proofs.Common.{arith, sym, ◌∙◌, ap, is_some}
use Rattle.std.proofs.lemmas.Option.{same_Some}
use Rattle.lattice_core.specs.SiteList.{site_numbers}
use Rattle.pattern_list.proofs.Coding.{is-slot, parent-inside, slot-looked}
use Rattle.pattern_list.proofs.Conditions.{sites-from}
use Rattle.pattern_list.proofs.Numbers.{length-numbers}
use Rattle.pattern_list.proofs.code.slot_at.Goals as goal

pub site_of-parent-requires-clause-few : goal.site_of-parent-requires-clause-few
site_of-parent-requires-clause-few c =
    let long = (sites-from _ _ _ c.requires.placed.vertices).long in
    let same = length-numbers c.args.sites.now in
    let few = c.parent_of.ensures.few in
    omega arith

pub site_of-site-requires-clause-few : goal.site_of-site-requires-clause-few
site_of-site-requires-clause-few c =
    let long = (sites-from _ _ _ c.requires.placed.vertices).long in
    let same = length-numbers c.args.sites.now in
    let few = c.vertex_at.ensures.few in
    omega arith

pub slot_of-requires : goal.slot_of-requires
slot_of-requires c =
    let is = is-slot c.args.graph.now c.args.pattern.now (site_numbers c.args.sites.now) c.len.ensures.lattice
    c.len-2.ensures.sound c.requires.placed c.args.place c.requires.some c.requires.few in
    record {
      site = parent-inside c.args.graph.now c.args.pattern.now (site_numbers c.args.sites.now) c.args.place
          c.parent_of.result _ is c.site_of-parent.ensures c.parent_of.ensures.value;
    }

pub unwrap-requires : goal.unwrap-requires
unwrap-requires c =
    let is = is-slot c.args.graph.now c.args.pattern.now (site_numbers c.args.sites.now) c.len.ensures.lattice
    c.len-2.ensures.sound c.requires.placed c.args.place c.requires.some c.requires.few in
    ap is_some (slot-looked c.args.graph.now c.args.pattern.now (site_numbers c.args.sites.now) c.args.place
    c.parent_of.result _ c.vertex_at.result _ c.slot_of.result is c.site_of-parent.ensures
    c.parent_of.ensures.value c.site_of-site.ensures c.vertex_at.ensures.value c.slot_of.ensures.value)

pub returns-clause-value : goal.returns-clause-value
returns-clause-value c =
    let is = is-slot c.args.graph.now c.args.pattern.now (site_numbers c.args.sites.now) c.len.ensures.lattice
    c.len-2.ensures.sound c.requires.placed c.args.place c.requires.some c.requires.few in
    same_Some _ _ (sym c.unwrap.ensures
    ∙ slot-looked c.args.graph.now c.args.pattern.now (site_numbers c.args.sites.now) c.args.place
    c.parent_of.result _ c.vertex_at.result _ c.slot_of.result is c.site_of-parent.ensures
    c.parent_of.ensures.value c.site_of-site.ensures c.vertex_at.ensures.value c.slot_of.ensures.value)

pub returns-clause-few : goal.returns-clause-few
returns-clause-few c =
    let is = is-slot c.args.graph.now c.args.pattern.now (site_numbers c.args.sites.now) c.len.ensures.lattice
    c.len-2.ensures.sound c.requires.placed c.args.place c.requires.some c.requires.few in
    let small = is.small in
    let same = same_Some _ _
    (sym c.unwrap.ensures
    ∙ slot-looked c.args.graph.now c.args.pattern.now (site_numbers c.args.sites.now) c.args.place
    c.parent_of.result _ c.vertex_at.result _ c.slot_of.result is c.site_of-parent.ensures
    c.parent_of.ensures.value c.site_of-site.ensures c.vertex_at.ensures.value c.slot_of.ensures.value) in
    omega arith
