use Rattle.std.proofs.Common.{◌≡◌, ◌≤◌, ◌+◌, [], length}
use Rattle.dec_text.specs.Places.{lines_below}
use Rattle.deck_shape.specs.LineFaults.{file_of_text, line_count, read_below}
use Rattle.deck_shape.specs.Views.{reading_at}
use Rattle.deck_shape.proofs.reader.read_file.Given as goal

abbrev pub invariant-loop-reading : goal.invariant-loop-reading
invariant-loop-reading l = record {
  rest : read_below (reading_at l.bytes l.reading) [] (lines_below l.bytes l.place) (line_count l.bytes) ≡ file_of_text l.fn.form l.bytes;
  counted : l.place.number ≤ l.place.start + 1;
}

abbrev pub decreases-loop-reading : goal.decreases-loop-reading
decreases-loop-reading l = length (lines_below l.bytes l.place)
