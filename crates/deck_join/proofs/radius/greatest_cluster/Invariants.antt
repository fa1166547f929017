use Rattle.std.proofs.Common.{◌≡◌, ◌≤◌, drop, map}
use Rattle.std.specs.Prelude.{max}
use Rattle.std.specs.List.{fold}
use Rattle.pattern_types.specs.Parts.{vertex_count}
use Rattle.pattern_types.specs.declared.limits.TheConstants.{MAX_VERTICES}
use Rattle.rate_rules.specs.Soundness.{greatest}
use Rattle.deck_join.proofs.radius.greatest_cluster.Given as goal

-- the greatest so far and of those that are left is that of all
abbrev pub invariant-loop-cluster : goal.invariant-loop-cluster
invariant-loop-cluster l = record {
  value : fold max l.most (map (λ c. vertex_count c.pattern) (drop l.cluster-index l.clusters))
      ≡ greatest (map (λ c. vertex_count c.pattern) l.clusters);
  some : 1 ≤ l.most;
  few : l.most ≤ MAX_VERTICES;
}
