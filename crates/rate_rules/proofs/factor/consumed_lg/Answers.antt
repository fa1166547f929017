use Rattle.std.proofs.Common.{◌^◌, sym, ◌∙◌}
use Rattle.rate_rules.proofs.Logarithms.{product_lg-within}
use Rattle.rate_rules.proofs.factor.consumed_lg.Goals as goal

pub power_lg-requires : goal.power_lg-requires
power_lg-requires c x e =
    product_lg-within c.lg_of.result c.lg_of-2.result (2 ^ 41) (2 ^ 41) c.lg_of.ensures.range c.lg_of-2.ensures.range x
    (sym c.product_lg.ensures ∙ e)
