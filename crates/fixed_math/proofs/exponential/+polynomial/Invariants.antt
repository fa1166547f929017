use Rattle.std.proofs.Common.{length}
use Rattle.fixed_math.proofs.exponential.+polynomial.Given as goal

abbrev pub decreases-polynomial : goal.decreases-polynomial
decreases-polynomial l = length l.coefficients.now
