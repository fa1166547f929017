use Rattle.std.proofs.Common.{◌≡◌, ◌++◌, drop}
use Rattle.zacros_output.specs.Words.{next_counts}
use Rattle.zacros_output.proofs.words.push_next_counts.Given as goal

-- the counts so far, and those that are left, are all of them
abbrev pub invariant-loop-count : goal.invariant-loop-count
invariant-loop-count l = l.out.items ++ next_counts (drop l.count-index l.counts) ≡ l.fn.out.items ++ next_counts l.counts
