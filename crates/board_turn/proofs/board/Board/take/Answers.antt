use Rattle.std.proofs.Common.{◌*◌, ◌+◌, ap, sym, ◌∙◌, Some, is_some, rules, arith}
use Rattle.std.specs.Int.{bit_at}
use Rattle.std.proofs.lemmas.Nat.Bits.{bit_at_or}
use Rattle.board_turn.proofs.Steps.{looks, takes_turn}
use Rattle.board_turn.proofs.Puts.{on_key}
use Rattle.board_turn.proofs.Seats.{busy_again, out_with, taken}
use Rattle.board_turn.proofs.board.Board.take.Goals as goal

pub load-was-requires : goal.load-was-requires
load-was-requires g c = (search rules, search rules, looks g.B.Parts.is_patch g.B.Parts.done_set _ _ _ _)

pub compare_exchange-seen-requires : goal.compare_exchange-seen-requires
compare_exchange-seen-requires g c =
    let pass = c.args.pass.now in
    let first = c.load-was.ensures.2.seat in
    let number = ap (λ m. m.0.number) first in (
      search rules,
      search rules,
      takes_turn g.B.Parts.is_patch g.B.Parts.done_set _ _ _ c.load-was.new.seat.me c.load-was.result _
          c.if-was-ne0.false (ap (λ n. n * 281474976710656 + c.load-was.result) (pass.numbered ∙ sym number))
          (omega (arith, number, pass.numbered, pass.in_range.0)) (ap (λ m. m.0.holds) first ∙ c.requires.idle),
    )

pub returns-then-seen-was-clause-busy : goal.returns-then-seen-was-clause-busy
returns-then-seen-was-clause-busy g c =
    let pass = c.args.pass.now in
    let first = c.load-was.ensures.2 in
    let last = c.compare_exchange-seen.ensures.2 in
    busy_again pass.seat c.load-was.new.seat c.compare_exchange-seen.new.seat c.load-was.result
    c.compare_exchange-seen.result first.seat first.learns (last.lost c.if-seen-was.true) last.learns
    c.if-was-ne0.false
    c.if-seen-was.true (omega (arith, pass.numbered, pass.in_range.0)) c.requires.idle

pub exchange-requires : goal.exchange-requires
exchange-requires g c = let t = c.compare_exchange-seen.ensures.2.won c.if-seen-was.false in (
  search rules,
  (
    Some t.parts,
    out_with g.B.Parts.is_patch g.B.Parts.done_set c.load-was.new.seat.me
        c.compare_exchange-seen.new.seat.me c.compare_exchange-seen.result t,
  ),
)

pub invariant_of-result : goal.invariant_of-result
invariant_of-result g c =
    let pass = c.args.pass.now in
    let shown = c.of.result.value in
    let key = c.args.self.now.table.shared.key in
    let t = taken g.B.Parts.is_patch g.B.Parts.done_set pass.seat.me c.load-was.new.seat.me
    c.compare_exchange-seen.new.seat.me shown.me c.load-was.result c.compare_exchange-seen.result
    c.unwrap-parts.result key
    c.exchange.result c.load-was.ensures.2.seat (c.compare_exchange-seen.ensures.2.won c.if-seen-was.false)
    c.if-seen-was.false (search rules) (search rules) (search rules) (search rules) c.if-was-ne0.false in
    record {
      shows = ap is_some t.shows;
      patch = on_key (λ k. g.B.Parts.is_patch c.unwrap-parts.result k) shown.me.0.key key t.shows t.patch;
      narrow = (t.narrow, omega (arith, t.claims, pass.narrow));
      grows = λ p. omega (arith, ap (λ n. bit_at n p) t.done);
      within = λ p. omega (arith, ap (λ n. bit_at n p) t.done, bit_at_or shown.me.0.known shown.me.0.claims p);
    }
