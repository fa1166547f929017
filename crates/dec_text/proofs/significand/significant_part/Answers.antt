use Rattle.std.proofs.Common.{◌∙◌, arith, sym}
use Rattle.dec_text.proofs.DigitLists.{significant_more_digit, significant_more_point}
use Rattle.dec_text.proofs.significand.significant_part.Goals as goal
use Rattle.dec_text.proofs.significand.significant_part.Goals.{then-is_digit, else-is_digit}

pub loop-byte-preserved : goal.loop-byte-preserved
loop-byte-preserved c =
    elim c.if-is_digit.branch [
      | then-is_digit w ↦
          let longer = significant_more_digit c.args.mantissa.now c.loop-byte.byte-index c.loop-byte-test.true
          (sym c.is_digit.ensures ∙ w.if-is_digit.true) in
          let keeps = w.with_digit-kept.ensures.keeps _ c.loop-byte.invariant.keeps in
          rw (w.kept-is, longer) (record { keeps = keeps; count = omega (arith, keeps.count); dropped = omega arith })
      | else-is_digit w ↦
          let same = significant_more_point c.args.mantissa.now c.loop-byte.byte-index c.loop-byte-test.true
          (sym c.is_digit.ensures ∙ w.if-is_digit.false) in
          rw (w.kept-is, same) (record { keeps = c.loop-byte.invariant.keeps; count = c.loop-byte.invariant.count; dropped = omega arith })
    ]
