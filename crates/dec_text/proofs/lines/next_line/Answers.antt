use Rattle.std.proofs.Common.{◌≡◌, ◌∙◌, length, ap, sym, arith}
use Rattle.std.proofs.lemmas.Bool.Decides.{nat_tests}
use Rattle.dec_text.proofs.LinePlaces.{line_found, line_passed, none_below}
use Rattle.dec_text.specs.Places.{lines_below}
use Rattle.dec_text.proofs.lines.next_line.Goals as goal

pub returns-then-not-is_empty-clause-line : goal.returns-then-not-is_empty-clause-line
returns-then-not-is_empty-clause-line c =
    let text = c.args.bytes.now in
    let at = c.loop-at.at in
    let has : length c.in_ok-words.words.items ≡ 0 → ⊥ = λ none. grind (arith, nat_tests, c.if-not-is_empty.ensures) in
    ap (lines_below text) (sym c.loop-at.invariant.place)
    ∙ c.loop-at.invariant.left
    ∙ rw c.new.ensures
    (line_found text at.start at.number c.first_cut-end.result c.in_ok-words.words.items
    c.loop-at-test.true c.first_cut-end.ensures.place c.in_ok-words.ensures.words has)

pub loop-at-preserved : goal.loop-at-preserved
loop-at-preserved c =
    let text = c.args.bytes.now in
    let at = c.loop-at.at in
    let none : length c.in_ok-words.words.items ≡ 0 = grind (arith, nat_tests, c.if-not-is_empty.ensures) in
    record {
      place = c.loop-at.invariant.place;
      left = c.loop-at.invariant.left
          ∙ line_passed text at.start at.number c.first_cut-end.result c.in_ok-words.words.items
          c.loop-at-test.true c.first_cut-end.ensures.place c.in_ok-words.ensures.words none;
      counted = omega arith;
    }

pub returns-clause-line : goal.returns-clause-line
returns-clause-line c = (
  ap (lines_below c.args.bytes.now) (sym c.loop-at.invariant.place)
      ∙ c.loop-at.invariant.left
      ∙ none_below c.args.bytes.now c.loop-at.at.start c.loop-at.at.number c.loop-at-test.false,
  c.loop-at.invariant.place,
)
