use Rattle.std.proofs.Common.{◌∙◌, ap, arith, nat_le}
use Rattle.deck_values.proofs.Powers.{raised_le, raised_past}
use Rattle.deck_values.proofs.number.raised_is_at_most.Goals as goal

pub returns-then-power-most : goal.returns-then-power-most
returns-then-power-most c =
    ap (nat_le c.args.digits) c.ten_to.ensures ∙ raised_le c.args.digits c.args.power c.args.most c.if-power-most.true

pub returns-else-power-most : goal.returns-else-power-most
returns-else-power-most c = raised_past c.args.digits c.args.power c.args.most (omega arith) (omega arith)
