use Rattle.std.proofs.Common.{◌≡◌, ◌++◌, ◌∷◌, [], of_z, to_z, arith, rules}
use Rattle.std.specs.Int.{w128}
use Rattle.std.proofs.lemmas.Int.{ints}
use Rattle.dec_text.proofs.Printing.{fixed_pushed}
use Rattle.dec_text.proofs.Rounding.{power_positive}
use Rattle.dec_text.proofs.fixed.push_fixed.Goals as goal

pub nonzero_div-size : goal.nonzero_div-size
nonzero_div-size c = rw c.pow.ensures (power_positive c.args.decimals)

pub returns-clause-ok : goal.returns-clause-ok
returns-clause-ok c =
    let kept : to_z w128 (of_z w128 c.args.value) ≡ c.args.value = omega (arith, ints) in
    let pointed : c.push.new.self.items ≡ c.push_whole.new.out.items ++ 46 ∷ [] = search rules in
    fixed_pushed _ _ _ _ _ c.args.value c.args.decimals _ _ (rw kept at c.in_ok-push_sign.ensures.ok)
    (rw kept at c.unsigned_abs-size.ensures.value) c.pow.ensures
    c.in_ok-push_whole.ensures.ok pointed c.in_ok-push_last.ensures.ok
