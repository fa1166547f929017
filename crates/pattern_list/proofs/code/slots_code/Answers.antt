use Rattle.std.proofs.Common.{◌≡◌, ◌+◌, arith, zero-add, ◌∙◌}
use Rattle.lattice_core.specs.SiteList.{site_numbers}
use Rattle.pattern_types.specs.Parts.{vertex_count}
use Rattle.pattern_list.specs.Code.{slot_at, slots_code}
use Rattle.pattern_list.proofs.Coding.{slots-below}
use Rattle.pattern_list.proofs.Digits.{digit-added}
use Rattle.pattern_list.proofs.code.slots_code.Goals as goal

pub loop-place-init : goal.loop-place-init
unfolding slots_code
loop-place-init c = zero-add _

pub overflow_add-code : goal.overflow_add-code
overflow_add-code c =
    let p = c.args.pattern.now in
    let sites = site_numbers c.args.sites.now in
    let count = c.len-place-end.ensures.value in
    let test = c.loop-place-test.true in
    let below = slots-below c.args.graph.now p sites c.len.ensures.lattice c.len-place-end.ensures.sound c.requires in
    let fits = (digit-added (slot_at c.args.graph.now p sites) c.loop-place.place (vertex_count p) c.loop-place.code _
    c.from.result (omega arith) (c.from.ensures ∙ c.slot_at.ensures.value) c.loop-place.invariant below).fits in
    omega arith

pub loop-place-preserved : goal.loop-place-preserved
loop-place-preserved c =
    let p = c.args.pattern.now in
    let sites = site_numbers c.args.sites.now in
    let count = c.len-place-end.ensures.value in
    let test = c.loop-place-test.true in
    let low = c.loop-place.auto.place in
    let below = slots-below c.args.graph.now p sites c.len.ensures.lattice c.len-place-end.ensures.sound c.requires in
    (digit-added (slot_at c.args.graph.now p sites) c.loop-place.place (vertex_count p) c.loop-place.code _
    c.from.result (omega arith) (c.from.ensures ∙ c.slot_at.ensures.value) c.loop-place.invariant below).left

pub returns-clause-below : goal.returns-clause-below
returns-clause-below c =
    let below = slots-below c.args.graph.now c.args.pattern.now (site_numbers c.args.sites.now) c.len.ensures.lattice
    c.len-place-end.ensures.sound c.requires in
    let whole : c.loop-place.code + _ ≡ _ = c.loop-place.invariant in
    omega arith
