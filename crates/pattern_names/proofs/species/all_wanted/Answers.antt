use Rattle.std.proofs.Common.{◌∙◌, ◌+◌, ◌∷◌, ap, drop, get_or, map, sym}
use Rattle.std.proofs.lemmas.List.{get_or_default}
use Rattle.deck_values.proofs.EarliestFaults.{next_left}
use Rattle.deck_values.proofs.FaultLists.{joined, joined_next}
use Rattle.deck_words.specs.Faults.{all_of, both, value_map}
use Rattle.pattern_names.specs.Species.{wanted_in}
use Rattle.pattern_rows.specs.Views.{state_at}
use Rattle.pattern_rows.specs.declared.state.StateRow.TheVariants.{Any}
use Rattle.pattern_names.proofs.species.all_wanted.Goals as goal

pub loop-row-preserved : goal.loop-row-preserved
loop-row-preserved c =
    let view = state_at c.args.bytes.now in
    let read = wanted_in c.args.book.now in
    let rows = c.args.rows.now in
    let i = c.loop-row.row-index in
    let so_far = c.loop-row.wanted in
    let rest = all_of (map read (map view (drop (i + 1) rows))) in
    let before = value_map (λ v. v.items) so_far in
    let row = get_or rows i Any in
    ap (λ r. joined r rest) c.in_ok-wanted.ensures
    ∙ joined_next (λ v. v.items) so_far c.wanted_in.result rest
    ∙ ap (λ next. joined before (value_map (λ found. found.0 ∷ found.1) (both next rest))) c.wanted_in.ensures
    ∙ ap (λ xs. joined before (all_of (map read xs)))
    (sym (next_left view rows i row c.loop-row-test.true (get_or_default rows i Any row c.loop-row-test.true)))
    ∙ c.loop-row.invariant
