use Rattle.std.proofs.Common.{◌∙◌, Ok, ap, map, sym}
use Rattle.dec_text.proofs.Spans.{map-bytes_at}
use Rattle.deck_values.specs.Names.{bytes_of, names_on}
use Rattle.dec_text.specs.Spans.{line_at, run_at}
use Rattle.deck_words.specs.Faults.{value_map}
use Rattle.lattice_deck.proofs.names.names_line.Goals as goal

pub returns-in_ok-copies_of-in-Ok : goal.returns-in_ok-copies_of-in-Ok
returns-in_ok-copies_of-in-Ok c =
    let text = c.args.bytes.now in
    let line = line_at text c.args.item.now.line in
    ap (λ names. Ok names) (c.in_ok-copies_of-in-Ok.ensures ∙ map-bytes_at text c.in-Ok.words.now)
    ∙ ap (λ read. value_map bytes_of (value_map (λ spans. map (run_at text) spans.now) read)) (sym c.in-Ok.is)
    ∙ ap (value_map bytes_of) (c.in_ok-words.ensures ∙ ap (names_on c.args.count line.number) (c.arguments.ensures.runs text))
