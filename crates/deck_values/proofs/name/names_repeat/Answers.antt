use Rattle.std.proofs.Common.{◌≡◌, ◌∙◌, ap, false, map, subst, sym, take, true}
use Rattle.std.specs.BTreeSet.{contains}
use Rattle.std.proofs.lemmas.Bool.{not-false, not-true}
use Rattle.std.proofs.lemmas.List.{take_all}
use Rattle.dec_text.specs.Spans.{bytes_at}
use Rattle.deck_values.specs.Names.{names_repeat}
use Rattle.deck_values.proofs.Repeats.{HasSeen, next_name, repeat_found, repeat_passed, seen_more, word_cmp}
use Rattle.deck_values.proofs.name.names_repeat.Goals as goal

pub returns-then-not-branch : goal.returns-then-not-branch
returns-then-not-branch c =
    let among : contains word_cmp c.loop-name.seen c.bytes.result ≡ true = not-false _ (sym c.in_ok-insert.ensures.added ∙ c.if-not-branch.true) in
    sym (repeat_found (bytes_at c.args.bytes.now) c.args.names.now c.loop-name.name-index _ c.bytes.result.now c.loop-name-test.true c.bytes.ensures
    (sym (c.loop-name.invariant.seen c.bytes.result) ∙ among))

pub loop-name-preserved : goal.loop-name-preserved
loop-name-preserved c =
    let h = bytes_at c.args.bytes.now in
    let names = c.args.names.now in
    let i = c.loop-name.name-index in
    let new : contains word_cmp c.loop-name.seen c.bytes.result ≡ false = not-true _ (sym c.in_ok-insert.ensures.added ∙ c.if-not-branch.false) in
    record {
      seen =
          subst (λ words. HasSeen words c.insert.new.self) (sym (next_name h names i _ c.bytes.result.now c.loop-name-test.true c.bytes.ensures))
          (seen_more (map h (take i names)) c.bytes.result c.loop-name.seen c.insert.new.self
          c.in_ok-insert.ensures.updates.0 c.loop-name.invariant.seen);
      none = repeat_passed h names i _ c.bytes.result.now c.loop-name-test.true c.bytes.ensures
          c.loop-name.invariant.none (sym (c.loop-name.invariant.seen c.bytes.result) ∙ new);
    }

pub returns : goal.returns
returns c = sym (ap (λ names. names_repeat (map (bytes_at c.args.bytes.now) names))
    (sym (take_all c.loop-name.name-index c.args.names.now c.loop-name-test.false)) ∙ c.loop-name.invariant.none)
