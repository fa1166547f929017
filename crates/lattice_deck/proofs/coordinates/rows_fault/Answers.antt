use Rattle.std.proofs.Common.{◌∙◌, ◌+◌, ap, drop, map, sym}
use Rattle.dec_text.specs.Spans.{line_at}
use Rattle.deck_values.specs.Readings.{least}
use Rattle.deck_words.specs.Faults.{earliest}
use Rattle.lattice_deck.specs.Coordinates.{row_fault}
use Rattle.deck_values.proofs.EarliestFaults.{earliest_groups, next_left}
use Rattle.lattice_deck.proofs.coordinates.rows_fault.Goals as goal

pub loop-row-preserved : goal.loop-row-preserved
loop-row-preserved c =
    let f = line_at c.args.bytes.now in
    let rows = c.args.rows.now in
    let fault = c.loop-row.fault in
    let rest = least (map row_fault (map f (drop (c.loop-row.row-index + 1) rows))) in
    ap (λ first. earliest first rest) c.earliest-fault.ensures
    ∙ earliest_groups fault c.row_fault.result rest
    ∙ ap (λ here. earliest fault (earliest here rest)) c.row_fault.ensures
    ∙ ap (λ lines. earliest fault (least (map row_fault lines)))
    (sym (next_left f rows c.loop-row.row-index c.row-item.result c.loop-row-test.true c.row-item.is))
    ∙ c.loop-row.invariant
