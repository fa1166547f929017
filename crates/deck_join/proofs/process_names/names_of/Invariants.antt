use Rattle.std.proofs.Common.{◌≡◌, ◌++◌, drop}
use Rattle.deck_join.specs.ProcessNames.{names_of}
use Rattle.deck_join.specs.Views.{named_steps_at}
use Rattle.deck_join.proofs.process_names.names_of.Given as goal

-- the names so far, and those of the steps that are left, are all of them
abbrev pub invariant-loop-step : goal.invariant-loop-step
invariant-loop-step l =
    l.names.items ++ names_of (named_steps_at l.bytes (drop l.step-index l.steps)) ≡ names_of (named_steps_at l.bytes l.steps)
