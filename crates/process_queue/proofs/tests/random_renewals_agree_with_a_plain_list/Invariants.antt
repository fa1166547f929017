use Rattle.std.proofs.Common.{◌≡◌}
use Rattle.process_queue.proofs.tests.random_renewals_agree_with_a_plain_list.Given as goal

-- the queue keeps its sites
abbrev pub invariant-loop-step : goal.invariant-loop-step
invariant-loop-step g l = l.queue.sites ≡ 6
