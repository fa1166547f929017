-- Names, as words on lines.
use Rattle.std.specs.Prelude.{ℕ, List}
use Rattle.dec_text.specs.Lines.{Run}
use Rattle.dec_text.specs.Spans.{run_at}
use Rattle.dec_text.specs.declared.lines.Span.{Span}
use Rattle.deck_shape.specs.declared.name.Name.{Name}

-- a word, and the number of its line
pub record NameWord : Type 0 where
  pub word : Run
  pub line : ℕ

-- a word of a line, as a name
abbrev pub on_line : ℕ → Run → NameWord
on_line line word = record { word = word; line = line }

-- the same by its place in a text
abbrev pub name_of : ℕ → Span → Name
name_of line span = record { span = span; line = line }

-- a name with its bytes in a text
abbrev pub name_at : List ℕ → Name → NameWord
name_at text name = on_line name.line (run_at text name.span)
