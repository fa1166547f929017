use Rattle.std.proofs.Common.{◌≡◌, drop, map}
use Rattle.deck_join.specs.Steps.{step_in}
use Rattle.deck_join.specs.Views.{named_steps_at}
use Rattle.deck_values.proofs.FaultLists.{joined}
use Rattle.deck_words.specs.Faults.{all_of, value_map}
use Rattle.mechanism_deck.specs.Views.{steps_at}
use Rattle.deck_join.proofs.steps.all_steps.Given as goal

-- the steps so far, and those that are left, are all of them
abbrev pub invariant-loop-step : goal.invariant-loop-step
invariant-loop-step l =
    joined (value_map (λ v. named_steps_at l.bytes v.items) l.all)
    (all_of (map (step_in l.book) (steps_at l.bytes (drop l.step-index l.steps))))
    ≡ all_of (map (step_in l.book) (steps_at l.bytes l.steps))
