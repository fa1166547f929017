use Rattle.std.proofs.Common.{◌≡◌, ◌+◌, ◌≤◌, List, ◌∷◌, ◌++◌, None, drop, map, get_or, ap, subst, ◌∙◌, arith}
use Rattle.std.proofs.lemmas.List.{drop_more}
use Rattle.std.proofs.lemmas.List.Elements.{All-from_recursion}
use Rattle.std.specs.List.{AllByRecursion}
use Rattle.std.specs.Option.{option_copied}
use Rattle.kmc_base.specs.Entries.{IsRising, entry_at, kept_or}
use Rattle.rate_rules.specs.InstanceRange.{IsInRange}
use Rattle.trajectory.specs.Trajectory.{fresh, renewed}
use Rattle.kmc_core.specs.declared.renewal.Renewal.{Renewal}
use Rattle.trajectory.specs.declared.instance.Instance.{Instance}
use Rattle.kmc_core.proofs.MergedEntries.{found_later, renewed_more}
use Rattle.kmc_core.proofs.renewal.Renewal.merge.Goals as goal

pub loop-instance-preserved : goal.loop-instance-preserved
loop-instance-preserved c =
    let kept = c.loop-instance.invariant in
    let event = c.args.self.now in
    let old = c.args.old.now in
    let offers = c.args.instances.now in
    let i = c.loop-instance.instance-index in
    let offer : Instance = get_or offers i (record { code = 0; lg = None }) in
    let others : List Instance = drop (i + 1) offers in
    let cut : drop i offers ≡ offer ∷ others = drop_more offers i (record { code = 0; lg = None }) (omega arith) in
    let found = subst (AllByRecursion (λ (o : Instance). entry_at o.code c.loop-instance.rest.now ≡ entry_at o.code old)) cut kept.found in
    let rising = subst (λ (os : List Instance). IsRising (map (λ o. o.code) os)) cut kept.rising in
    let same = c.skip_below-rest.ensures.same in
    let at : option_copied c.entry_of-old_entry.result ≡ entry_at offer.code old =
    c.entry_of-old_entry.ensures ∙ (same offer.code (omega arith) ∙ found.0) in
    let is = c.renewed_entry-entry.ensures.value
    ∙ ap (λ (e : Renewal). kept_or e.fired (option_copied c.entry_of-old_entry.result) (fresh e.draws e.event e.time offer)) kept.same
    ∙ ap (λ e. kept_or event.fired e (fresh event.draws event.event event.time offer)) at in
    let whole = subst (λ (os : List Instance). c.loop-instance.entries ++ renewed event.draws event.event event.time event.fired
    old os ≡ c.args.entries.now ++ renewed event.draws event.event event.time event.fired old offers) cut
    kept.done in
    record {
      done = renewed_more event.draws event.event event.time event.fired old c.loop-instance.entries c.push.new.self _ _ offer
          others c.in_ok-push.ensures.ok is whole;
      same = c.renewed_entry-entry.ensures.same ∙ kept.same;
      rest = c.skip_below-rest.ensures.rising;
      found = found_later old c.loop-instance.rest.now c.skip_below-rest.result.now offer.code others rising.0 same found.1;
      later = λ code all. same code
          (All-from_recursion (λ (o : Instance). o.code ≤ code) offers all i (record { code = 0; lg = None }) (omega arith))
          ∙ kept.later code all;
      rising = rising.1;
      in_range = (subst (AllByRecursion IsInRange) cut kept.in_range).1;
    }
