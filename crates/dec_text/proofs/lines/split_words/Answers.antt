use Rattle.std.proofs.Common.{arith, ◌<◌}
use Rattle.std.proofs.lemmas.List.Elements.{All-push}
use Rattle.dec_text.proofs.Runs.{next_word, no_word}
use Rattle.dec_text.proofs.Spans.{word_pushed}
use Rattle.dec_text.specs.Bytes.{is_blank}
use Rattle.dec_text.specs.Spans.{IsWithin}
use Rattle.dec_text.proofs.lines.split_words.Goals as goal
use Rattle.dec_text.proofs.lines.split_words.Goals.{then-at-stop+in_ok-push, else-at-stop}

pub loop-at-preserved : goal.loop-at-preserved
loop-at-preserved c =
    let before : c.loop-at.at < c.args.end = omega arith in
    elim c.if-at-stop.branch [
      | then-at-stop+in_ok-push w ↦ rw (w.words-is, w.in_ok-push.ensures.items) (record {
        words = word_pushed _ _ _ _ _ _ _
            (next_word is_blank c.args.bytes.now c.loop-at.at c.args.end c.first_cut-stop.result before
            c.requires.inside c.first_cut-stop.ensures.place w.if-at-stop.true)
            c.loop-at.invariant.words;
        within = All-push (IsWithin c.args.bytes.now) _ _ c.loop-at.invariant.within (record { filled = w.if-at-stop.true; inside = omega arith });
      })
      | else-at-stop w ↦ rw w.words-is (record {
        words = rw (← no_word is_blank c.args.bytes.now c.loop-at.at c.args.end c.first_cut-stop.result before
            c.requires.inside c.first_cut-stop.ensures.place w.if-at-stop.false) c.loop-at.invariant.words;
        within = c.loop-at.invariant.within;
      })
    ]
