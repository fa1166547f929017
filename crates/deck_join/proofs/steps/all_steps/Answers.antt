use Rattle.std.proofs.Common.{◌∙◌, ◌+◌, ◌∷◌, ap, drop, map, sym}
use Rattle.deck_join.proofs.ReadLists.{next_view}
use Rattle.deck_join.specs.Steps.{step_in}
use Rattle.deck_join.specs.Views.{named_at}
use Rattle.deck_values.proofs.EarliestFaults.{next_left}
use Rattle.deck_values.proofs.FaultLists.{joined, joined_next}
use Rattle.deck_words.specs.Faults.{all_of, both, value_map}
use Rattle.mechanism_deck.specs.Views.{step_at}
use Rattle.deck_join.proofs.steps.all_steps.Goals as goal

pub loop-step-preserved : goal.loop-step-preserved
loop-step-preserved c =
    let view = step_at c.args.bytes.now in
    let named = named_at c.args.bytes.now in
    let read = step_in c.args.book.now in
    let i = c.loop-step.step-index in
    let so_far = c.loop-step.all in
    let next = c.in_ok-step_in.field-0 in
    let rest = all_of (map read (map view (drop (i + 1) c.args.steps.now))) in
    let before = value_map (λ v. map named v.items) so_far in
    ap (λ r. joined r rest) (next_view (λ v. v.items) named c.in_ok-all.all so_far next c.in_ok-all.ensures)
    ∙ joined_next (λ v. map named v.items) so_far (value_map named next) rest
    ∙ ap (λ next. joined before (value_map (λ found. found.0 ∷ found.1) (both next rest))) c.in_ok-step_in.ensures
    ∙ ap (λ xs. joined before (all_of (map read xs)))
    (sym (next_left view c.args.steps.now i c.step-item.result c.loop-step-test.true c.step-item.is))
    ∙ c.loop-step.invariant
