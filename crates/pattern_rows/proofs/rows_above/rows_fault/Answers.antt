use Rattle.std.proofs.Common.{map, subst, sym, take}
use Rattle.pattern_rows.specs.RowsAbove.{IsIndexOf}
use Rattle.pattern_rows.specs.Views.{state_at}
use Rattle.pattern_rows.specs.declared.state.StateRow.TheVariants.{Any}
use Rattle.pattern_rows.proofs.RowIndexes.{fault_more, rows_more}
use Rattle.pattern_rows.proofs.rows_above.rows_fault.Goals as goal

pub loop-row-preserved : goal.loop-row-preserved
loop-row-preserved c =
    let text = c.args.bytes.now in
    let rows = c.args.rows.now in
    let i = c.loop-row.row-index in
    let within = c.loop-row-test.true in
    let above = map (state_at text) (take i rows) in
    let index = c.loop-row.invariant.index in
    record {
      index = subst (λ rs. IsIndexOf text rs c.row_fault.new.above) (sym (rows_more text rows i Any within))
          (c.in_ok-row_fault.ensures.kept above index);
      left = fault_more text rows i Any within c.loop-row.fault c.earliest-fault.result c.in_ok-row_fault.field-0 _
          (c.in_ok-row_fault.ensures.fault above index) c.earliest-fault.ensures c.loop-row.invariant.left;
    }
