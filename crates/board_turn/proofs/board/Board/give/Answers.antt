use Rattle.std.proofs.Common.{◌∷◌, Some, ap, sym, ◌∙◌, rules, arith}
use Rattle.std.specs.Int.{bit_at}
use Rattle.std.proofs.lemmas.Nat.{or_lt}
use Rattle.std.proofs.lemmas.Nat.Bits.{bit_at_or}
use Rattle.atomic_table.specs.Table.{rest}
use Rattle.board_turn.proofs.Bits.{narrowed}
use Rattle.board_turn.proofs.Steps.{gives_turn}
use Rattle.board_turn.proofs.board.Board.give.Goals as goal

pub store-requires : goal.store-requires
store-requires g c =
    let pass = c.args.pass.now in
    let turn = c.args.turn in
    let known = turn.taker.value.me.0.known in
    let claims = turn.taker.value.me.0.claims in
    let was = c.requires.taken in
    let me = c.exchange-empty.new.seat.me in
    let e = c.exchange-empty.ensures.3 in
    let key = c.args.self.now.table.shared.key in
    let done = c.done-done.ensures in (
      search rules,
      search rules,
      gives_turn g.B.Parts.is_patch g.B.Parts.done_set _ _ _ me turn.parts key c.done-done.result
          (ap (λ m. m.1) e ∙ ap (λ l. (0, Some turn.parts) ∷ rest l) (pass.carries was.holds))
          (ap (λ m. m.0.holds) e ∙ was.holds)
          (ap (λ m. m.0.key) e ∙ c.requires.own.1)
          (turn.patch key c.requires.shown.1)
          (sym done)
          (omega (arith, done, narrowed _ _ turn.within (or_lt 48 known claims turn.narrow.0 turn.narrow.1)))
          (λ p. omega (arith, ap (λ m. bit_at m.0.known p) e, ap (λ n. bit_at n p) was.known, turn.grows p, ap (λ n. bit_at n p) done))
          (λ p. omega (
            arith,
            ap (λ m. bit_at m.0.known p) e,
            ap (λ m. bit_at m.0.claims p) e,
            ap (λ n. bit_at n p) was.known,
            ap (λ n. bit_at n p) was.claims,
            ap (λ n. bit_at n p) done,
            turn.within p,
            pass.backed p,
            bit_at_or known claims p,
            bit_at_or me.0.known me.0.claims p,
          )),
    )
