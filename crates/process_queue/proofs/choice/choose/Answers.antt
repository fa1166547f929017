use Rattle.std.proofs.Common.{◌≡◌, ◌+◌, ◌<◌, List, ◌∷◌, ◌++◌, None, length, drop, map, get_or, ap, subst, ◌∙◌, arith}
use Rattle.std.proofs.lemmas.List.{drop_more, length-append}
use Rattle.std.specs.List.{AllByRecursion}
use Rattle.std.specs.Option.{option_copied}
use Rattle.kmc_base.specs.Entries.{IsRising, chosen as chosen_of, codes_of, entry_at, kept_or}
use Rattle.kmc_base.specs.declared.entry.Entry.{Entry}
use Rattle.kmc_base.specs.declared.firing_time.When.TheVariants.{At}
use Rattle.process_queue.proofs.ChosenEntries.{chosen-more, found-later}
use Rattle.process_queue.specs.Filing.{entries_in}
use Rattle.process_queue.proofs.choice.choose.Goals as goal

pub loop-entry-preserved : goal.loop-entry-preserved
loop-entry-preserved c =
    let kept = c.loop-entry.invariant in
    let slots = c.args.rooms.now.slab.slots in
    let all = entries_in slots c.args.list.now in
    let rest = entries_in slots c.loop-entry.rest.now in
    let next = entries_in slots c.skip_below-rest.result.now in
    let fired = c.args.fired in
    let fresh = c.args.fresh.now in
    let i = c.loop-entry.entry-index in
    let none : Entry = record { code = 0; lg = None; born = 0; born_time = 0; when = At 0 } in
    let entry = get_or fresh i none in
    let others = drop (i + 1) fresh in
    let test : i < length fresh = c.loop-entry-test.true in
    let cut : drop i fresh ≡ entry ∷ others = drop_more fresh i none test in
    let found = subst (AllByRecursion (λ (e : Entry). entry_at e.code rest ≡ entry_at e.code all)) cut kept.found in
    let rising = subst (λ (es : List Entry). IsRising (codes_of es)) cut kept.rising in
    let same = c.skip_below-rest.ensures.same in
    let at : option_copied c.entry_of-old.result ≡ entry_at entry.code all
    = c.entry_of-old.ensures ∙ (same entry.code (omega arith) ∙ found.0) in
    let is : c.kept_or.result ≡ chosen_of all fired entry = c.kept_or.ensures ∙ ap (λ old. kept_or fired old entry) at in
    let whole = subst (λ (es : List Entry). c.loop-entry.chosen.items ++ map (chosen_of all fired) es ≡ map (chosen_of all fired) fresh) cut kept.done in
    record {
      done = chosen-more all fired c.loop-entry.chosen.items c.push_reserved.new.self.items (map (chosen_of all fired) fresh) c.kept_or.result entry
          others c.push_reserved.ensures.items is whole;
      count = omega (arith, simp length-append at (ap length c.push_reserved.ensures.items), kept.count);
      capacity = c.push_reserved.ensures.capacity ∙ kept.capacity;
      rest = c.skip_below-rest.ensures.rising;
      found = found-later all rest next entry.code others rising.0 same found.1;
      rising = rising.1;
    }
