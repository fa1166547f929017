use Rattle.std.proofs.Common.{◌+◌, ◌*◌, ◌^◌, ap, arith, sym, ◌∙◌}
use Rattle.std.proofs.lemmas.List.Sums.{fold_more}
use Rattle.rate_rules.proofs.Logarithms.{product_lg-within}
use Rattle.rate_rules.specs.Factor.{consumed_lg, inverse_lg, lg_of, product_lg}
use Rattle.rate_rules.proofs.factor.factor_of.Goals as goal

pub loop-gas-init : goal.loop-gas-init
loop-gas-init c = record {
  value = c.product_lg-lg.ensures ∙ ap (λ x. product_lg x c.inverse_lg.result) c.lg_of.ensures.value
      ∙ ap (product_lg (lg_of c.args.pre_exponential.now)) c.inverse_lg.ensures.value;
  range = λ x e.
      product_lg-within c.lg_of.result c.inverse_lg.result (2 ^ 41) (2 ^ 41) c.lg_of.ensures.range c.inverse_lg.ensures.range x
      (sym c.product_lg-lg.ensures ∙ e);
}

pub product_lg-lg-requires-in-loop-gas-clause-first : goal.product_lg-lg-requires-in-loop-gas-clause-first
product_lg-lg-requires-in-loop-gas-clause-first c = λ x e. let within = c.loop-gas.invariant.range x e in omega arith

pub loop-gas-preserved : goal.loop-gas-preserved
loop-gas-preserved c = record {
  value = c.product_lg-lg-in-loop-gas.ensures
      ∙ ap (λ x. product_lg x c.consumed_lg.result) c.loop-gas.invariant.value
      ∙ ap (product_lg _) (c.consumed_lg.ensures.value ∙ ap (consumed_lg c.args.pressure.now) c.gas-item.is)
      ∙ sym (fold_more (λ lg gas. product_lg lg (consumed_lg c.args.pressure.now gas))
      (product_lg (lg_of c.args.pre_exponential.now) (inverse_lg c.args.ratio.now)) c.args.consumed.now c.loop-gas.gas-index
      c.gas-item.result c.loop-gas-test.true);
  range = λ x e.
      let within = product_lg-within c.loop-gas.lg c.consumed_lg.result (2 ^ 42 + c.loop-gas.gas-index * 2 ^ 50) (2 ^ 50)
      c.loop-gas.invariant.range c.consumed_lg.ensures.range x (sym c.product_lg-lg-in-loop-gas.ensures ∙ e) in
      omega arith;
}
