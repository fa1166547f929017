use Rattle.std.proofs.Common.{◌∙◌, ap, map}
use Rattle.std.specs.List.{list_any}
use Rattle.dec_text.proofs.Spans.{map-bytes_at}
use Rattle.dec_text.specs.Spans.{run_at}
use Rattle.deck_words.specs.Faults.{value_map, with_fault}
use Rattle.deck_words.specs.declared.kind.TheConstants.{BAD_NAME}
use Rattle.deck_values.proofs.NameFaults.{with_fault-map}
use Rattle.deck_values.specs.Lists.{fault_if}
use Rattle.deck_values.specs.Names.{bad_name_fault, bytes_of, is_bad_name}
use Rattle.deck_values.proofs.name.species_on.Goals as goal

pub returns : goal.returns
returns c =
    let text = c.args.bytes.now in
    let words = map (run_at text) c.args.words.now in
    let spans = value_map (λ spans. map (run_at text) spans.now) c.in_ok-names.names in
    ap (value_map (λ spans. map (run_at text) spans.now)) c.with_fault.ensures
    ∙ with_fault-map (λ spans. map (run_at text) spans.now) _ _
    ∙ ap (λ fault. with_fault fault spans) c.fault_if.ensures
    ∙ ap (λ bad. with_fault (fault_if bad c.args.line BAD_NAME) spans)
    (c.any_is_bad-bad.ensures ∙ ap (list_any is_bad_name) (map-bytes_at text c.args.words.now))
    ∙ ap (with_fault (bad_name_fault c.args.line (bytes_of words))) c.in_ok-names.ensures
