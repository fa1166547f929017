use Rattle.std.proofs.Common.{◌∙◌, ◌+◌, ap, drop, map, sym}
use Rattle.std.specs.declared.alloc.Global.{Global}
use Rattle.std.specs.declared.vec.Vec.{Vec}
use Rattle.deck_shape.specs.Blocks.{section_at}
use Rattle.deck_values.proofs.EarliestFaults.{next_left}
use Rattle.deck_words.specs.Faults.{all_of, value_map}
use Rattle.mechanism_deck.specs.Steps.{steps_of}
use Rattle.mechanism_deck.specs.Views.{steps_at}
use Rattle.mechanism_deck.specs.declared.part.StepPart.{StepPart}
use Rattle.pattern_rows.specs.Listings.{joined}
use Rattle.pattern_rows.proofs.ListedVariants.{next_section, together}
use Rattle.mechanism_deck.proofs.steps.with_sections.Goals as goal

pub loop-section-preserved : goal.loop-section-preserved
loop-section-preserved c =
    let text = c.args.bytes.now in
    let sections = c.args.sections.now in
    let section = c.section-item.result in
    let i = c.loop-section.section-index in
    let before = value_map (λ (list : Vec StepPart Global). steps_at text list.items) c.loop-section.steps in
    let left = all_of (map steps_of (map (section_at text) (drop (i + 1) sections))) in
    ap (λ steps. joined steps (together left)) c.in_ok-steps.ensures
    ∙ next_section before (steps_of (section_at text section)) left
    ∙ ap (λ blocks. joined before (together (all_of (map steps_of blocks))))
    (sym (next_left (section_at text) sections i section c.loop-section-test.true c.section-item.is))
    ∙ c.loop-section.invariant
