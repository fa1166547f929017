use Rattle.std.proofs.Common.{◌≡◌, ◌∙◌, ◌+◌, ◌++◌, [], ◌∷◌, List, IfOk, Ok, Err, Result, Option, ℕ, ap, append_assoc, drop, map, subst, sym}
use Rattle.std.proofs.lemmas.List.{append-nil}
use Rattle.dec_text.specs.Spans.{line_at}
use Rattle.deck_values.specs.Readings.{least_fault, values_of, with_value}
use Rattle.deck_words.specs.Faults.{earliest, fault_of}
use Rattle.deck_words.specs.declared.fault.LineFault.{LineFault}
use Rattle.lattice_deck.specs.Ends.{AreEnds, HasEnds}
use Rattle.lattice_deck.specs.Joins.{join_row}
use Rattle.lattice_deck.specs.declared.joins.JoinRow.{JoinRow}
use Rattle.deck_values.proofs.EarliestFaults.{earliest_groups, next_left}
use Rattle.lattice_deck.proofs.joins.read_joins.Goals as goal

pushed : (items : List JoinRow) (next : Result JoinRow LineFault) (rest : List JoinRow)
    → (items ++ with_value next []) ++ rest ≡ items ++ with_value next rest
pushed items (Ok x) rest = append_assoc items (x ∷ []) rest
pushed items (Err f) rest = ap (λ xs. xs ++ rest) (append-nil items)

ends_with : (sites : Option ℕ) (items : List JoinRow) (row : JoinRow) → AreEnds sites items → HasEnds sites row → AreEnds sites (items ++ row ∷ [])
ends_with sites [] row ends here = (here, tt)
ends_with sites (first ∷ items) row ends here = (ends.0, ends_with sites items row ends.1 here)

ends_pushed : (sites : Option ℕ) (items : List JoinRow) (next : Result JoinRow LineFault) → AreEnds sites items → IfOk next (HasEnds sites)
    → AreEnds sites (items ++ with_value next [])
ends_pushed sites items (Ok row) ends here = ends_with sites items row ends here
ends_pushed sites items (Err f) ends here = subst (AreEnds sites) (sym (append-nil items)) ends

pub loop-row-preserved : goal.loop-row-preserved
loop-row-preserved c =
    let f = line_at c.args.bytes.now in
    let sites = c.args.sites in
    let rows = c.args.rows.now in
    let i = c.loop-row.row-index in
    let left = map f (drop (i + 1) rows) in
    let next = c.join_row.result in
    let items = c.loop-row.read.values.items in
    let fault = c.loop-row.read.fault in
    let more = sym (next_left f rows i c.row-item.result c.loop-row-test.true c.row-item.is) in
    let rest = least_fault (map (join_row sites) left) in
    record {
      values = ap (λ xs. xs ++ values_of (map (join_row sites) left)) c.in_ok-read.ensures.values
          ∙ pushed items next (values_of (map (join_row sites) left))
          ∙ ap (λ r. items ++ with_value r (values_of (map (join_row sites) left))) c.join_row.ensures.value
          ∙ ap (λ ls. items ++ values_of (map (join_row sites) ls)) more
          ∙ c.loop-row.invariant.values;
      fault = ap (λ g. earliest g rest) c.in_ok-read.ensures.fault
          ∙ earliest_groups fault (fault_of next) rest
          ∙ ap (λ r. earliest fault (earliest (fault_of r) rest)) c.join_row.ensures.value
          ∙ ap (λ ls. earliest fault (least_fault (map (join_row sites) ls))) more
          ∙ c.loop-row.invariant.fault;
      ends = subst (AreEnds sites) (sym c.in_ok-read.ensures.values) (ends_pushed sites items next c.loop-row.invariant.ends c.join_row.ensures.ends);
    }
