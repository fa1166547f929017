-- Rows of sites as they are read.
use Rattle.std.specs.Prelude.{ℕ, List}
use Rattle.dec_text.specs.Spans.{run_at}
use Rattle.site_rows.specs.SiteRows.{SiteRow}
use Rattle.site_rows.specs.declared.row.ReadRow.{ReadRow}

-- what a row that is read says in its text
abbrev pub row_at : List ℕ → ReadRow → SiteRow
row_at text row = record {
  line = row.line;
  site = row.site;
  type_word = run_at text row.type_word;
  neighbours = row.neighbours.items;
  is_out_of_range = row.is_out_of_range;
}
