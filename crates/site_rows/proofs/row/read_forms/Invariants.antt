use Rattle.std.proofs.Common.{◌≡◌, ◌++◌, drop, map}
use Rattle.dec_text.specs.Spans.{line_at}
use Rattle.deck_values.specs.Readings.{least_fault}
use Rattle.deck_words.specs.Faults.{earliest}
use Rattle.site_rows.specs.ReadRows.{row_at}
use Rattle.site_rows.specs.SiteRows.{rows_of, site_row}
use Rattle.site_rows.proofs.row.read_forms.Given as goal

-- what is read so far, and what is left, is all
abbrev pub invariant-loop-line : goal.invariant-loop-line
invariant-loop-line l = record {
  values : map (row_at l.bytes) l.read.values.items ++ rows_of (map (line_at l.bytes) (drop l.line-index l.lines))
      ≡ rows_of (map (line_at l.bytes) l.lines);
  fault : earliest l.read.fault (least_fault (map site_row (map (line_at l.bytes) (drop l.line-index l.lines))))
      ≡ least_fault (map site_row (map (line_at l.bytes) l.lines));
}
