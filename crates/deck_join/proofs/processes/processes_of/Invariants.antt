use Rattle.std.proofs.Common.{◌≡◌, ◌++◌, drop, map}
use Rattle.deck_join.specs.Processes.{processes_of}
use Rattle.deck_join.specs.Views.{gases_at, named_steps_at}
use Rattle.deck_join.proofs.processes.processes_of.Given as goal

-- the processes so far, and those of the steps that are left, are all of them
abbrev pub invariant-loop-step : goal.invariant-loop-step
invariant-loop-step l =
    let type_names = map (λ name. name.items) l.type_names in
    l.processes.items ++ processes_of (gases_at l.simulation) type_names (named_steps_at l.bytes (drop l.step-index l.steps))
    ≡ processes_of (gases_at l.simulation) type_names (named_steps_at l.bytes l.steps)
