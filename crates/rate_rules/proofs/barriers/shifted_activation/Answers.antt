use Rattle.std.proofs.Common.{arith}
use Rattle.std.proofs.lemmas.Int.{to_z-of_z}
use Rattle.rate_rules.proofs.barriers.shifted_activation.Goals as goal

pub returns-clause-value : goal.returns-clause-value
returns-clause-value c = let a = c.shift.ensures.value in let r = c.shift.ensures.range in let b = c.from.ensures in grind (arith, to_z-of_z)
