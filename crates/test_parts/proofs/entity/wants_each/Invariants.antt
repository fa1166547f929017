use Rattle.std.proofs.Common.{ℕ, ◌≤◌, Contains}
use Rattle.pattern_types.specs.declared.wanted.Wanted.TheVariants.{Holds}
use Rattle.test_parts.proofs.entity.wants_each.Given as goal

-- the dentates so far are wanted
abbrev pub invariant-loop-place : goal.invariant-loop-place
invariant-loop-place l = (d : ℕ) → 1 ≤ d → d ≤ l.place → Contains l.wanted (Holds l.entity l.species d)
