use Rattle.std.proofs.Common.{◌∙◌, ◌+◌, ◌++◌, ap, append_assoc, drop, map, sym}
use Rattle.std.specs.List.{flat_map}
use Rattle.deck_shape.specs.Blocks.{section_at}
use Rattle.deck_shape.specs.Names.{name_at}
use Rattle.deck_values.proofs.EarliestFaults.{next_left}
use Rattle.pattern_rows.specs.TypeWords.{section_types}
use Rattle.pattern_rows.proofs.site_types.type_words.Goals as goal

pub loop-section-preserved : goal.loop-section-preserved
loop-section-preserved c =
    let text = c.args.bytes.now in
    let sections = c.args.sections.now in
    let section = c.section-item.result in
    let i = c.loop-section.section-index in
    let before = map (name_at text) c.loop-section.words.items in
    let left = flat_map section_types (map (section_at text) (drop (i + 1) sections)) in
    ap (λ words. words ++ left) c.in_ok-words.ensures
    ∙ append_assoc before (section_types (section_at text section)) left
    ∙ ap (λ blocks. before ++ flat_map section_types blocks)
    (sym (next_left (section_at text) sections i section c.loop-section-test.true c.section-item.is))
    ∙ c.loop-section.invariant
