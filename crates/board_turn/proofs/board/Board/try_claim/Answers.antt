use Rattle.std.proofs.Common.{ap, sym, ◌∙◌, rules, arith, bit_and, bit_or}
use Rattle.std.proofs.lemmas.Nat.{or_lt}
use mathlib.Core.Option.{none}
use Rattle.atomic_table.specs.Table.{step}
use Rattle.board_turn.proofs.Bits.{set_at, unset_at, narrowed}
use Rattle.board_turn.proofs.Steps.{claims_one}
use Rattle.board_turn.proofs.Seats.{missed, won, tries}
use Rattle.board_turn.proofs.board.Board.try_claim.Goals as goal

pub returns-then-pass-bit-ne0-clause-lost : goal.returns-then-pass-bit-ne0-clause-lost
returns-then-pass-bit-ne0-clause-lost g c = let pass = c.args.pass.now in let bit = c.piece_bit-bit in
    λ _. (
      set_at pass.seat.me.0.seen bit.result c.args.piece bit.ensures.is
          (λ z. c.if-pass-bit-ne0.true (ap (λ n. bit_and n bit.result) pass.has_found ∙ z)),
      search rules,
    )

pub fetch_or-found-requires : goal.fetch_or-found-requires
fetch_or-found-requires g c = let pass = c.args.pass.now in let bit = c.piece_bit-bit in (
  search rules,
  search rules,
  claims_one g.B.Parts.is_patch g.B.Parts.done_set _ _ _ pass.seat.me bit.result c.args.piece bit.ensures.is
      bit.ensures.narrow (omega (arith, pass.numbered, pass.in_range.0)),
)

pub returns-then-found-bit-ne0-clause-lost : goal.returns-then-found-bit-ne0-clause-lost
returns-then-found-bit-ne0-clause-lost g c = λ _.
    let t = missed c.args.pass.now.seat.me c.fetch_or-found.new.seat.me _ _ c.args.piece c.piece_bit-bit.ensures.is
    (c.fetch_or-found.ensures.2.lost c.if-found-bit-ne0.true) in
    (t.found, t.claims)

pub returns-then-found-bit-ne0-clause-found : goal.returns-then-found-bit-ne0-clause-found
returns-then-found-bit-ne0-clause-found g c =
    (missed c.args.pass.now.seat.me c.fetch_or-found.new.seat.me _ _ c.args.piece c.piece_bit-bit.ensures.is
    (c.fetch_or-found.ensures.2.lost c.if-found-bit-ne0.true)).grows

pub invariant_of-pass : goal.invariant_of-pass
invariant_of-pass g c =
    let pass = c.args.pass.now in
    let bit = c.piece_bit-bit in
    let claims = pass.seat.me.0.claims in
    let t = tries (step c.args.self.now.table.shared.table_id.slots 0 bit.result 0 none) pass.seat.me
    c.fetch_or-found.new.seat.me c.fetch_or-found.result c.fetch_or-found.ensures.2 in
    record {
      follows = t.leads ∙ pass.follows;
      numbered = pass.numbered ∙ sym t.number;
      in_range = pass.in_range;
      narrow = narrowed _ _ t.grows (or_lt 48 claims bit.result pass.narrow bit.ensures.narrow);
      has_found = ap (λ n. bit_or n (bit_or c.fetch_or-found.result bit.result)) pass.has_found ∙ sym t.seen;
      backed = t.backs pass.backed;
      empty = λ idle. t.slots ∙ pass.empty (sym t.holds ∙ idle);
      carries = λ holds. t.slots ∙ pass.carries (sym t.holds ∙ holds);
    }

pub returns-clause-won : goal.returns-clause-won
returns-clause-won g c = λ _.
    let e = c.fetch_or-found.ensures.2.won c.if-found-bit-ne0.false in
    let t = won c.args.pass.now.seat.me c.fetch_or-found.new.seat.me _ _ c.args.piece c.piece_bit-bit.ensures.is e.0 e.1 in
    let pass = c.args.pass.now in
    let unset = unset_at pass.seat.me.0.seen c.piece_bit-bit.result c.args.piece c.piece_bit-bit.ensures.is
    (ap (λ n. bit_and n c.piece_bit-bit.result) (sym pass.has_found) ∙ c.if-pass-bit-ne0.false) in
    record { fresh = t.fresh; unfound = unset; added = t.added; has = t.has }

pub returns-clause-found : goal.returns-clause-found
returns-clause-found g c =
    let e = c.fetch_or-found.ensures.2.won c.if-found-bit-ne0.false in
    (won c.args.pass.now.seat.me c.fetch_or-found.new.seat.me _ _ c.args.piece c.piece_bit-bit.ensures.is e.0 e.1).grows
