use Rattle.std.proofs.Common.{◌∙◌, ◌+◌, ◌++◌, ap, drop, map, sym}
use Rattle.dec_text.specs.Spans.{line_at}
use Rattle.deck_values.proofs.EarliestFaults.{fault_next, next_left, values_next}
use Rattle.deck_values.specs.Readings.{least_fault, values_of}
use Rattle.deck_words.specs.Faults.{earliest}
use Rattle.pattern_rows.specs.States.{state_row}
use Rattle.pattern_rows.specs.Views.{state_at}
use Rattle.pattern_rows.proofs.row_form.read_forms.Goals as goal

pub loop-line-preserved : goal.loop-line-preserved
loop-line-preserved c =
    let text = c.args.bytes.now in
    let reading = state_row c.args.takes_any in
    let lines = c.args.lines.now in
    let line = c.line-item.result in
    let i = c.loop-line.line-index in
    let next = sym (next_left (line_at text) lines i line c.loop-line-test.true c.line-item.is) in
    let left = map reading (map (line_at text) (drop (i + 1) lines)) in
    let before = c.loop-line.read in
    record {
      values = values_next (state_at text) before.values.items c.in_ok-read.read.values.items c.state_row.result
          (reading (line_at text line)) (values_of left) _ c.state_row.ensures c.in_ok-read.ensures.values
          (ap (λ ls. map (state_at text) before.values.items ++ values_of (map reading ls)) next ∙ c.loop-line.invariant.values);
      fault = fault_next (state_at text) before.fault c.in_ok-read.read.fault c.state_row.result
          (reading (line_at text line)) (least_fault left) _ c.state_row.ensures c.in_ok-read.ensures.fault
          (ap (λ ls. earliest before.fault (least_fault (map reading ls))) next ∙ c.loop-line.invariant.fault);
    }
