use Rattle.std.proofs.Common.{◌∙◌, ◌+◌, ◌++◌, ap, drop, map, sym}
use Rattle.dec_text.specs.Spans.{line_at}
use Rattle.deck_values.specs.Readings.{least_fault}
use Rattle.deck_words.specs.Faults.{earliest}
use Rattle.site_rows.specs.ReadRows.{row_at}
use Rattle.site_rows.specs.SiteRows.{rows_of, site_row}
use Rattle.deck_values.proofs.EarliestFaults.{fault_next, next_left, values_next}
use Rattle.site_rows.proofs.row.read_forms.Goals as goal

pub loop-line-preserved : goal.loop-line-preserved
loop-line-preserved c =
    let text = c.args.bytes.now in
    let lines = c.args.lines.now in
    let line = c.line-item.result in
    let i = c.loop-line.line-index in
    let next = sym (next_left (line_at text) lines i line c.loop-line-test.true c.line-item.is) in
    let left = map (line_at text) (drop (i + 1) lines) in
    record {
      values = values_next (row_at text) c.loop-line.read.values.items c.in_ok-read.read.values.items c.in_ok-site_row.field-0
          (site_row (line_at text line)) (rows_of left) _ c.in_ok-site_row.ensures c.in_ok-read.ensures.values
          (ap (λ ls. map (row_at text) c.loop-line.read.values.items ++ rows_of ls) next ∙ c.loop-line.invariant.values);
      fault = fault_next (row_at text) c.loop-line.read.fault c.in_ok-read.read.fault c.in_ok-site_row.field-0
          (site_row (line_at text line)) (least_fault (map site_row left)) _ c.in_ok-site_row.ensures c.in_ok-read.ensures.fault
          (ap (λ ls. earliest c.loop-line.read.fault (least_fault (map site_row ls))) next ∙ c.loop-line.invariant.fault);
    }
