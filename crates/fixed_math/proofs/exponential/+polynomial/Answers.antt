use Rattle.std.proofs.Common.{ap, ◌∙◌}
use Rattle.std.proofs.lemmas.List.{take_rest}
use Rattle.fixed_math.specs.Exponential.{polynomial_at}
use Rattle.fixed_math.proofs.ExponentialLemmas.{polynomial_at-empty, polynomial_at-step}
use Rattle.fixed_math.proofs.exponential.+polynomial.Goals as goal

pub returns-in-empty-clause-value : goal.returns-in-empty-clause-value
returns-in-empty-clause-value t c = polynomial_at-empty c.args.x c.args.coefficients.now c.in-empty.len_below

pub returns-in-len1-up-clause-value : goal.returns-in-len1-up-clause-value
returns-in-len1-up-clause-value t c =
    polynomial_at-step c.args.x c.polynomial.result c.args.coefficients.now c.in-len1-up.len_at_least
    (c.polynomial.ensures.value ∙ ap (polynomial_at c.args.x) (take_rest c.args.coefficients.now 1))
