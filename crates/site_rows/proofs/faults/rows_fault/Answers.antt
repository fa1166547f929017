use Rattle.std.proofs.Common.{◌∙◌, ◌+◌, ◌++◌, ◌∷◌, [], ap, drop, map, subst, sym, take}
use Rattle.deck_words.specs.Faults.{earliest}
use Rattle.site_rows.specs.ReadRows.{row_at}
use Rattle.site_rows.specs.RowFaults.{fault_below}
use Rattle.site_rows.specs.RowLookup.{HasSitesOf}
use Rattle.deck_values.proofs.EarliestFaults.{earliest_groups, next_left}
use Rattle.site_rows.proofs.Placed.{taken_more}
use Rattle.site_rows.proofs.RowLookups.{first-from_added, sites_pushed}
use Rattle.site_rows.proofs.faults.rows_fault.Goals as goal

pub loop-row-preserved : goal.loop-row-preserved
loop-row-preserved c =
    let rows = c.args.rows.now in
    let row = c.row-item.result in
    let i = c.loop-row.row-index in
    record {
      above = λ text.
          let f = row_at text in
          subst (λ rs. HasSitesOf rs c.insert.new.self) (sym (taken_more f rows i row c.loop-row-test.true c.row-item.is))
          (sites_pushed (map f (take i rows)) (f row) c.loop-row.above c.insert.new.self
          c.in_ok-is_first.ensures.updates.0 (c.loop-row.invariant.above text));
      rest = λ text.
          let f = row_at text in
          let all = map f rows in
          let above = map f (take i rows) in
          let sites = c.args.sites in
          let rest = map f (drop (i + 1) rows) in
          let here = c.in_ok-row_fault.ensures text above all (c.in_ok-index.ensures text)
          (first-from_added above row.site c.in_ok-is_first.is_first c.loop-row.above c.in_ok-is_first.ensures.added (c.loop-row.invariant.above
          text)) in
          ap (λ rs. earliest c.earliest-fault.result (fault_below sites all rs rest)) (taken_more f rows i row c.loop-row-test.true c.row-item.is)
          ∙ ap (λ fault. earliest fault (fault_below sites all (above ++ f row ∷ []) rest)) c.earliest-fault.ensures
          ∙ earliest_groups c.loop-row.fault c.in_ok-row_fault.field-0 (fault_below sites all (above ++ f row ∷ []) rest)
          ∙ ap (λ fault. earliest c.loop-row.fault (earliest fault (fault_below sites all (above ++ f row ∷ []) rest))) here
          ∙ ap (λ rs. earliest c.loop-row.fault (fault_below sites all above rs)) (sym (next_left f rows i row c.loop-row-test.true c.row-item.is))
          ∙ c.loop-row.invariant.rest text;
    }
