use Rattle.std.proofs.Common.{◌+◌, ◌*◌, ◌^◌, ◌<◌, ◌≤◌, List, sym, subst, arith}
use Rattle.std.specs.List.{AllByRecursion}
use Rattle.kmc_base.specs.Entries.{IsRising, codes_of}
use Rattle.kmc_base.specs.declared.entry.Entry.{Entry}
use Rattle.process_queue.proofs.TestParts.{below-more, below-weaker, rising-more}
use Rattle.process_queue.proofs.tests.add_entry.Goals as goal

pub returns-clause-rising : goal.returns-clause-rising
returns-clause-rising c =
    let es = c.args.entries.now.items in
    let code = c.entry.ensures in
    let up : c.args.process * 2 ^ 55 ≤ c.entry.result.code = omega arith in
    subst (λ (xs : List Entry). IsRising (codes_of xs)) (sym c.in_ok-push.ensures.items)
    (rising-more es c.entry.result c.requires.rising (below-weaker es (c.args.process * 2 ^ 55) c.entry.result.code c.requires.below up))

pub returns-clause-below : goal.returns-clause-below
returns-clause-below c =
    let es = c.args.entries.now.items in
    let code = c.entry.ensures in
    let few = c.requires.anchor in
    let last : c.entry.result.code < (c.args.process + 1) * 2 ^ 55 = omega arith in
    subst (λ (xs : List Entry). AllByRecursion (λ n. n < (c.args.process + 1) * 2 ^ 55) (codes_of xs)) (sym c.in_ok-push.ensures.items)
    (below-more es c.entry.result (c.args.process * 2 ^ 55) ((c.args.process + 1) * 2 ^ 55) c.requires.below (omega arith) last)
