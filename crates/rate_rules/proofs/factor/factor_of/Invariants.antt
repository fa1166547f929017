use Rattle.std.proofs.Common.{◌≡◌, ◌+◌, ◌*◌, ◌^◌, ◌≤◌, unsigned_abs, take}
use Rattle.std.specs.List.{fold}
use Rattle.std.specs.Option.{ForSome}
use Rattle.rate_rules.specs.Factor.{consumed_lg, inverse_lg, lg_of, product_lg}
use Rattle.rate_rules.proofs.factor.factor_of.Given as goal

-- the factor with the gases that were looked at
abbrev pub invariant-loop-gas : goal.invariant-loop-gas
invariant-loop-gas l = record {
  value : l.lg ≡ fold (λ lg gas. product_lg lg (consumed_lg l.pressure gas))
      (product_lg (lg_of l.pre_exponential) (inverse_lg l.ratio)) (take l.gas-index l.consumed);
  range : ForSome l.lg (λ lg. unsigned_abs lg ≤ 2 ^ 42 + l.gas-index * 2 ^ 50);
}
