use Rattle.std.proofs.Common.{◌≡◌, ◌∙◌, Ok, ap, false, length, map, sym}
use Rattle.std.proofs.lemmas.List.{length-map}
use Rattle.dec_text.proofs.Spans.{map-bytes_at}
use Rattle.dec_text.specs.Spans.{run_at}
use Rattle.deck_words.specs.Faults.{value_map, with_fault}
use Rattle.deck_words.specs.declared.kind.TheConstants.{LIST_LENGTH, REPEATED_NAME}
use Rattle.deck_values.proofs.NameFaults.{with_fault-map}
use Rattle.deck_values.specs.Lists.{fault_if, has_other_length}
use Rattle.deck_values.specs.Names.{bytes_of, names_repeat, repeat_fault}
use Rattle.deck_values.proofs.name.names_on.Goals as goal

pub returns : goal.returns
returns c =
    let text = c.args.bytes.now in
    let words = map (run_at text) c.args.words.now in
    let none : has_other_length c.args.count (length words) ≡ false =
    ap (has_other_length c.args.count) (length-map c.args.words.now (run_at text)) ∙ sym c.has_other_length.ensures ∙ c.if-has_other_length.false in
    ap (value_map (λ spans. map (run_at text) spans.now)) c.with_fault.ensures
    ∙ with_fault-map (λ spans. map (run_at text) spans.now) _ _
    ∙ ap (λ fault. with_fault fault (Ok words)) c.fault_if.ensures
    ∙ ap (λ repeats. with_fault (fault_if repeats c.args.line REPEATED_NAME) (Ok words))
    (c.in_ok-repeat.ensures ∙ ap names_repeat (map-bytes_at text c.args.words.now))
    ∙ ap (λ other. with_fault (fault_if other c.args.line LIST_LENGTH) (with_fault (repeat_fault c.args.line (bytes_of words)) (Ok words))) (sym none)
