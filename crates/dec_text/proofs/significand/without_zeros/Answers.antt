use Rattle.std.proofs.Common.{arith}
use Rattle.dec_text.proofs.Fronts.{front_shorter, front_done}
use Rattle.dec_text.proofs.significand.without_zeros.Goals as goal

pub loop-rest-preserved : goal.loop-rest-preserved
loop-rest-preserved c = record {
  positive = omega arith;
  size = omega arith;
  front = λ ds digits value. front_shorter ds _ _ (c.loop-rest.invariant.front ds digits value) c.loop-rest.invariant.positive c.loop-rest-test.true;
}

pub returns-clause-digits : goal.returns-clause-digits
returns-clause-digits c ds digits value = (front_done ds _ _ (c.loop-rest.invariant.front ds digits value) (omega arith)).0

pub returns-clause-zeros : goal.returns-clause-zeros
returns-clause-zeros c ds digits value = (front_done ds _ _ (c.loop-rest.invariant.front ds digits value) (omega arith)).1
