-- The lines of a text from a place on, and the next of them.
use Rattle.std.specs.Prelude.{◌≡◌, ℕ, Bool, List, [], ◌∷◌, length, Option, None, Some}
use Rattle.std.specs.List.{slice_range}
use Rattle.dec_text.specs.Bytes.{is_blank, is_comment_mark, is_line_feed}
use Rattle.dec_text.specs.Lines.{WordLine, lines_from, runs}
use Rattle.dec_text.specs.Spans.{line_at}
use Rattle.dec_text.specs.declared.lines.Cut.{Cut}
use Rattle.dec_text.specs.declared.lines.Cut.TheVariants.{LineFeed, CommentMark, Blank}
use Rattle.dec_text.specs.declared.lines.Line.{Line}
use Rattle.dec_text.specs.declared.lines.LinePlace.{LinePlace}

-- a byte ends a piece of a text
abbrev pub is_cut : Cut → ℕ → Bool
is_cut LineFeed = is_line_feed
is_cut CommentMark = is_comment_mark
is_cut Blank = is_blank

-- the lines of a text from a place on that have a word
abbrev pub lines_below : List ℕ → LinePlace → List WordLine
lines_below text place = lines_from place.number (runs is_line_feed place.start (slice_range text place.start (length text)))

-- a line is the first of those from a place on that have a word, and the others are below the next place; or there is
-- none, and the next place is the same
abbrev pub IsNextLine : List ℕ → LinePlace → LinePlace → Option Line → Type 0
IsNextLine text place next None = (lines_below text place ≡ []) × (next ≡ place)
IsNextLine text place next (Some line) = lines_below text place ≡ line_at text line ∷ lines_below text next
