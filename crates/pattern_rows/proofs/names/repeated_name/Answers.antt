use Rattle.std.proofs.Common.{◌∙◌, ◌++◌, ◌∷◌, [], ap, map, not, subst, sym, take}
use Rattle.std.specs.BTreeSet.{contains}
use Rattle.std.specs.List.{list_any}
use Rattle.deck_values.proofs.Repeats.{HasSeen, seen_more, word_cmp}
use Rattle.deck_words.specs.Faults.{earliest}
use Rattle.deck_words.specs.Tables.{same_word}
use Rattle.pattern_rows.proofs.NamesAbove.{name_of, names_more, not-not, repeats_more}
use Rattle.pattern_rows.proofs.names.repeated_name.Goals as goal

pub loop-section-preserved : goal.loop-section-preserved
loop-section-preserved c =
    let text = c.args.bytes.now in
    let sections = c.args.sections.now in
    let section = c.section-item.result in
    let i = c.loop-section.section-index in
    let above = map (name_of text) (take i sections) in
    record {
      seen = subst (λ names. HasSeen names c.insert.new.self)
          (ap (λ name. above ++ name ∷ []) c.bytes.ensures ∙ sym (names_more text sections i section c.loop-section-test.true c.section-item.is))
          (seen_more above c.bytes.result c.loop-section.above c.insert.new.self c.in_ok-is_new.ensures.updates.0 c.loop-section.invariant.seen);
      left = repeats_more text sections i section c.loop-section-test.true c.section-item.is c.loop-section.fault c.earliest-fault.result _
          (not c.in_ok-is_new.is_new)
          (ap not c.in_ok-is_new.ensures.added ∙ not-not (contains word_cmp c.loop-section.above c.bytes.result)
          ∙ c.loop-section.invariant.seen c.bytes.result
          ∙ ap (λ name. list_any (λ w. same_word w name) above) c.bytes.ensures)
          (c.earliest-fault.ensures ∙ ap (earliest c.loop-section.fault) c.fault_if-repeated.ensures) c.loop-section.invariant.left;
    }
