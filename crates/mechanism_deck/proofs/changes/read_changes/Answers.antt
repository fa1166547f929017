use Rattle.std.proofs.Common.{◌∙◌, ◌+◌, ◌++◌, ap, drop, get_or, map, sym}
use Rattle.dec_text.specs.declared.lines.Span.{Span}
use Rattle.deck_values.proofs.EarliestFaults.{fault_next, values_next}
use Rattle.deck_values.specs.Readings.{least_fault, values_of}
use Rattle.deck_words.specs.Faults.{earliest}
use Rattle.mechanism_deck.specs.Changes.{gas_change}
use Rattle.mechanism_deck.specs.Views.{change_at, pair_at}
use Rattle.mechanism_deck.proofs.GasPairs.{pair_left}
use Rattle.mechanism_deck.proofs.changes.read_changes.Goals as goal

pub loop-pair-preserved : goal.loop-pair-preserved
loop-pair-preserved c =
    let text = c.args.bytes.now in
    let reading = gas_change c.args.line in
    let pairs = c.args.pairs.now in
    let i = c.loop-pair.pair-index in
    let none : Span × Span = (record { start = 0; end = 0 }, record { start = 0; end = 0 }) in
    let pair = get_or pairs i none in
    let next = sym (pair_left text pairs i none c.loop-pair-test.true) in
    let left = map reading (map (pair_at text) (drop (i + 1) pairs)) in
    let before = c.loop-pair.read in
    record {
      changes = values_next (change_at text) before.values.items c.in_ok-read.read.values.items c.gas_change.result
          (reading (pair_at text pair)) (values_of left) _ c.gas_change.ensures c.in_ok-read.ensures.values
          (ap (λ ps. map (change_at text) before.values.items ++ values_of (map reading ps)) next ∙ c.loop-pair.invariant.changes);
      fault = fault_next (change_at text) before.fault c.in_ok-read.read.fault c.gas_change.result
          (reading (pair_at text pair)) (least_fault left) _ c.gas_change.ensures c.in_ok-read.ensures.fault
          (ap (λ ps. earliest before.fault (least_fault (map reading ps))) next ∙ c.loop-pair.invariant.fault);
    }
