use Rattle.std.proofs.Common.{◌∙◌, ap, map}
use Rattle.std.specs.Result.{result_err}
use Rattle.dec_text.specs.Spans.{run_at}
use Rattle.deck_values.specs.Names.{bytes_of, repeat_fault}
use Rattle.mechanism_deck.proofs.GasPairs.{fault_beside, fault_of_map, first_names_read}
use Rattle.mechanism_deck.proofs.changes.repeat_in.Goals as goal

pub returns : goal.returns
returns c =
    let text = c.args.bytes.now in
    let line = c.args.line in
    let names = map (run_at text) c.as_slice.result.now in
    c.err.ensures.value
    ∙ fault_of_map _ c.in_ok-different.different
    ∙ ap result_err c.in_ok-different.ensures
    ∙ fault_beside (repeat_fault line (bytes_of names)) names
    ∙ ap (λ words. repeat_fault line (bytes_of (map (run_at text) words))) (c.as_slice.ensures.value ∙ c.in_ok-names.ensures)
    ∙ ap (repeat_fault line) (first_names_read text c.args.pairs.now)
