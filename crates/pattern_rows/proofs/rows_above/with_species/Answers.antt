use Rattle.std.proofs.Common.{◌∙◌, ◌||◌, ap, not, sym}
use Rattle.dec_text.specs.Spans.{bytes_at}
use Rattle.deck_words.specs.Tables.{same_word}
use Rattle.pattern_rows.specs.RowsAbove.{is_another}
use Rattle.pattern_rows.proofs.RowIndexes.{another_more}
use Rattle.pattern_rows.proofs.rows_above.with_species.Goals as goal

pub returns-in-Some : goal.returns-in-Some
returns-in-Some c other =
    let text = c.args.bytes.now in
    let seen = c.in-Some.seen in
    let first = bytes_at text seen.first in
    let word = bytes_at text c.args.species in
    ap (λ b. b || not (same_word first other)) (c.is_another.ensures ∙ ap (λ w. seen.are_two || not (same_word first w)) c.bytes.ensures)
    ∙ another_more seen.are_two first word other
    ∙ ap (λ s. is_another text s other || not (same_word word other)) (sym c.in-Some.is)
