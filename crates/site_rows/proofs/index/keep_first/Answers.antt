use Rattle.std.proofs.Common.{◌∙◌, sym}
use Rattle.site_rows.specs.ReadRows.{row_at}
use Rattle.site_rows.proofs.RowLookups.{index_passed, index_pushed, none-from_test}
use Rattle.site_rows.proofs.index.keep_first.Goals as goal

pub returns-in_ok-insert : goal.returns-in_ok-insert
returns-in_ok-insert c text rows index =
    index_pushed c.args.sites rows (row_at text c.args.row.now) c.in_ok-kept_of.field-0 c.args.index.now c.insert.new.self
    (none-from_test _ (sym c.contains_key.ensures ∙ c.if-not-contains_key.true)) c.in_ok-insert.ensures.updates.0 (c.in_ok-kept_of.ensures text) index

pub returns-else-not-contains_key : goal.returns-else-not-contains_key
returns-else-not-contains_key c text rows index =
    index_passed c.args.sites rows (row_at text c.args.row.now) c.args.index.now (sym c.contains_key.ensures ∙ c.if-not-contains_key.false) index
