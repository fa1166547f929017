use Rattle.std.proofs.Common.{◌≡◌, ◌≤◌, drop, map}
use Rattle.std.specs.Prelude.{max}
use Rattle.std.specs.List.{fold}
use Rattle.pattern_types.specs.Parts.{vertex_count}
use Rattle.pattern_types.specs.declared.limits.TheConstants.{MAX_VERTICES}
use Rattle.rate_rules.specs.Soundness.{greatest}
use Rattle.deck_join.proofs.radius.greatest_process.Given as goal

-- the greatest so far and of those that are left is that of all
abbrev pub invariant-loop-process : goal.invariant-loop-process
invariant-loop-process l = record {
  value : fold max l.most (map (λ p. vertex_count p.before) (drop l.process-index l.processes))
      ≡ greatest (map (λ p. vertex_count p.before) l.processes);
  some : 1 ≤ l.most;
  few : l.most ≤ MAX_VERTICES;
}
