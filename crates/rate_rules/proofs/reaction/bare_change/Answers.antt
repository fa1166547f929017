use Rattle.std.proofs.Common.{◌≡◌, sym, ◌∙◌, subst, arith, IfOk, to_z, of_z, w64}
use Rattle.std.proofs.lemmas.Int.{ints}
use Rattle.lattice_core.specs.SiteList.{site_numbers}
use Rattle.pattern_list.proofs.Numbers.{length-numbers}
use Rattle.rate_rules.proofs.SideStates.{bare-forward, bare-reverse, on-placement, same-vertices}
use Rattle.rate_rules.proofs.reaction.bare_change.Goals as goal

pub bare-requires-clause-vertices : goal.bare-requires-clause-vertices
bare-requires-clause-vertices g c =
    sym (length-numbers c.args.placement.now) ∙ (on-placement c.args.chem.now.graph c.args.process.now.before _ c.requires.placed.placed).vertices

pub bare-requires-clause-inside : goal.bare-requires-clause-inside
bare-requires-clause-inside g c = (on-placement c.args.chem.now.graph c.args.process.now.before _ c.requires.placed.placed).inside

pub bare-requires-clause-different : goal.bare-requires-clause-different
bare-requires-clause-different g c = (on-placement c.args.chem.now.graph c.args.process.now.before _ c.requires.placed.placed).different

pub bare-requires-2-clause-vertices : goal.bare-requires-2-clause-vertices
bare-requires-2-clause-vertices g c =
    sym (length-numbers c.args.placement.now) ∙ (on-placement c.args.chem.now.graph c.args.process.now.before _ c.requires.placed.placed).vertices
    ∙ sym (same-vertices c.requires.placed.dentates c.args.process.now c.requires.placed.process_sound)

pub bare-requires-2-clause-inside : goal.bare-requires-2-clause-inside
bare-requires-2-clause-inside g c = (on-placement c.args.chem.now.graph c.args.process.now.before _ c.requires.placed.placed).inside

pub bare-requires-2-clause-different : goal.bare-requires-2-clause-different
bare-requires-2-clause-different g c = (on-placement c.args.chem.now.graph c.args.process.now.before _ c.requires.placed.placed).different

pub returns-then-process-clause-value : goal.returns-then-process-clause-value
returns-then-process-clause-value g c =
    let small = c.requires.placed.process_sound.numbers.gas in
    subst (λ x. IfOk c.difference.result (λ d. d ≡ x))
    (bare-forward c.args.chem.now c.args.process.now (site_numbers c.args.placement.now) _ _ (to_z w64 (of_z w64 c.args.process.now.gas))
    c.in_ok-before.ensures.states c.in_ok-after.ensures.states (omega (arith, ints)) c.if-process.true)
    c.difference.ensures.value

pub returns-clause-value : goal.returns-clause-value
returns-clause-value g c =
    let small = c.requires.placed.process_sound.numbers.gas in
    subst (λ x. IfOk c.difference-else-process.result (λ d. d ≡ x))
    (bare-reverse c.args.chem.now c.args.process.now (site_numbers c.args.placement.now) _ _ (to_z w64 (of_z w64 c.args.process.now.gas))
    c.in_ok-before.ensures.states c.in_ok-after.ensures.states (omega (arith, ints)) c.if-process.false)
    c.difference-else-process.ensures.value
