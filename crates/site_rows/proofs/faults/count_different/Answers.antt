use Rattle.std.proofs.Common.{arith}
use Rattle.std.proofs.lemmas.Grind.{common_steps}
use Rattle.site_rows.proofs.NumberLists.{count_once}
use Rattle.site_rows.proofs.faults.count_different.Goals as goal

pub returns : goal.returns
returns c =
    let same = count_once c.args.numbers.items c.sort_and_dedup.new.numbers.items c.sort_and_dedup.ensures.rising c.sort_and_dedup.ensures.same in
    grind (arith, common_steps, same)
