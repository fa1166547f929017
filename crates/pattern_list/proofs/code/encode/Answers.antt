use Rattle.std.proofs.Common.{List, length, arith, ap, ◌∙◌}
use Rattle.kmc_base.specs.declared.ids.SiteId.{SiteId}
use Rattle.lattice_core.specs.SiteList.{site_numbers}
use Rattle.pattern_list.specs.Code.{slots_code}
use Rattle.pattern_list.specs.Placement.{site_at}
use Rattle.pattern_list.proofs.Coding.{code-below, code-made}
use Rattle.pattern_list.proofs.Conditions.{sites-from}
use Rattle.pattern_list.proofs.Numbers.{length-numbers}
use Rattle.pattern_list.proofs.code.encode.Goals as goal

pub site_of-anchor-requires-clause-few : goal.site_of-anchor-requires-clause-few
site_of-anchor-requires-clause-few c =
    let long = (sites-from _ _ _ c.requires.placed.vertices).long in
    let numbers = length-numbers c.args.placement.now in
    let same = ap length c.sites-sites.ensures.value in
    let some = c.len-2.ensures.sound.some in
    omega arith

pub returns-clause-code : goal.returns-clause-code
returns-clause-code c =
    let same = c.sites-sites.ensures.value in
    code-made c.args.graph.now c.args.pattern.now (site_numbers c.args.placement.now) c.len.ensures.lattice
    c.len-2.ensures.sound c.requires.placed c.args.process.0 c.from.result c.from-2.result c.from-3.result
    c.requires.process c.from.ensures
    (c.from-2.ensures ∙ c.site_of-anchor.ensures ∙ ap (λ (xs : List SiteId). site_at (site_numbers xs) 1) same)
    (c.from-3.ensures ∙ c.slots_code-slots.ensures.value
    ∙ ap (λ (xs : List SiteId). slots_code c.args.graph.now c.args.pattern.now (site_numbers xs)) same)

pub returns-clause-below : goal.returns-clause-below
returns-clause-below c =
    let below = code-below c.args.graph.now c.args.process.0 c.args.pattern.now (site_numbers c.args.placement.now)
    c.len.ensures.lattice c.len-2.ensures.sound c.requires.placed c.requires.process in
    let same = returns-clause-code c in
    omega arith
