use Rattle.std.proofs.Common.{◌∙◌, sym}
use Rattle.site_rows.proofs.TypeIndexes.{number_added, number_kept}
use Rattle.site_rows.proofs.type_index.keep_first.Goals as goal

pub returns-in_ok-insert : goal.returns-in_ok-insert
returns-in_ok-insert c above is are =
    number_added above c.args.name c.args.numbers.now are c.insert.new.self c.args.number
    (sym c.contains_key.ensures ∙ c.if-not-contains_key.true) is c.in_ok-insert.ensures.updates.0

pub returns-else-not-contains_key : goal.returns-else-not-contains_key
returns-else-not-contains_key c above is are =
    number_kept above c.args.name c.args.numbers.now are (sym c.contains_key.ensures ∙ c.if-not-contains_key.false)
