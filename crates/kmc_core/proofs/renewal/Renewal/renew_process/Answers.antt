use Rattle.std.proofs.Common.{◌≡◌, ◌+◌, ◌-◌, ◌*◌, ◌^◌, ◌<◌, ◌≤◌, ◌++◌, refl, ap, subst, sym, ◌∙◌, arith}
use Rattle.std.specs.List.{AllByRecursion, range_with_len}
use Rattle.trajectory.specs.ByCode.{by_code}
use Rattle.kmc_core.specs.ListedProcess.{instances_at}
use Rattle.lattice_core.specs.Config.{state_at}
use Rattle.rate_rules.specs.System.{instances_of}
use Rattle.trajectory.specs.Trajectory.{renewed}
use Rattle.trajectory.specs.declared.instance.Instance.{Instance}
use Rattle.lattice_core.specs.Lattice.{site_count}
use Rattle.kmc_core.proofs.AnchorInstances.{all-anchors, at-from, at-to, instances_with, later-anchors, listed-pattern, next-anchor, none-after}
use Rattle.rate_rules.proofs.AllLemmas.{all-weaker}
use Rattle.kmc_core.proofs.MergedEntries.{added-alike, none-left, renewed-part}
use Rattle.kmc_core.proofs.renewal.Renewal.renew_process.Goals as goal

pub loop-anchor-init : goal.loop-anchor-init
loop-anchor-init g c =
    let event = c.args.self.now in
    let listed = c.args.listed.now in
    record {
      done = ap (λ offers. c.args.entries.now ++ renewed event.draws event.event event.time event.fired c.args.old.now (by_code offers))
          (all-anchors listed.deck.now.chem listed.config.now listed.number listed.process.now
          (listed-pattern listed c.requires.listed) (site_count listed.deck.now.chem.graph - 0) (omega arith));
      same = refl;
      rest = c.requires.old;
      found = λ code low. refl;
    }

pub loop-anchor-preserved : goal.loop-anchor-preserved
loop-anchor-preserved g c =
    let kept = c.loop-anchor.invariant in
    let event = c.args.self.now in
    let listed = c.args.listed.now in
    let old = c.args.old.now in
    let rest = c.loop-anchor.rest.now in
    let entries = c.loop-anchor.entries in
    let anchor = c.loop-anchor.anchor in
    let end = site_count listed.deck.now.chem.graph in
    let chemistry = listed.deck.now.chem in
    let states = listed.config.now in
    let number = listed.number in
    let process = listed.process.now in
    let count = c.len-anchor-end.ensures.count in
    let test = c.loop-anchor-test.true in
    let low : anchor < end = omega arith in
    let all = c.args.entries.now ++ renewed event.draws event.event event.time event.fired old
    (by_code (instances_of chemistry (state_at states) number process)) in
    let here = instances_at chemistry states number process anchor in
    let offers = c.fill.new.self.instances.items in
    let are : offers ≡ by_code here = c.in_ok-fill.ensures.value in
    let seen : c.deref.result.now ≡ offers = c.deref.ensures.value in
    let more = added-alike c.loop-anchor.self event entries c.merge.new.entries rest c.deref.result.now (by_code here)
    kept.same (seen ∙ are) c.in_ok-rest.ensures.value in
    let whole = subst (λ anchors. entries ++ renewed event.draws event.event event.time event.fired old
    (by_code (instances_with chemistry states number process anchors)) ≡ all)
    (next-anchor anchor end low) kept.done in
    record {
      done = renewed-part event.draws event.event event.time event.fired old rest (number * 2 ^ 55 + anchor * 2 ^ 35)
          (number * 2 ^ 55 + (anchor + 1) * 2 ^ 35) entries c.merge.new.entries all here
          (instances_with chemistry states number process (range_with_len (anchor + 1) (end - (anchor + 1)))) kept.found
          (at-from chemistry states number process anchor)
          (at-to chemistry states number process c.requires.listed.sound.chemistry.lattice (listed-pattern listed c.requires.listed) anchor)
          (later-anchors chemistry states number process (anchor + 1) (end - (anchor + 1))) more whole;
      same = c.merge.ensures.same ∙ kept.same;
      rest = c.in_ok-rest.ensures.rest;
      found = λ code above.
          c.in_ok-rest.ensures.later code
          (subst (AllByRecursion (λ (o : Instance). o.code ≤ code)) (sym seen)
          (all-weaker (λ (o : Instance). o.code < number * 2 ^ 55 + (anchor + 1) * 2 ^ 35)
          (λ (o : Instance). o.code ≤ code) offers (λ o below. omega arith) c.in_ok-fill.ensures.to))
          ∙ kept.found code (omega arith);
    }

pub returns-clause-value : goal.returns-clause-value
returns-clause-value g c =
    let event = c.args.self.now in
    let listed = c.args.listed.now in
    let chemistry = listed.deck.now.chem in
    let states = listed.config.now in
    let number = listed.number in
    let process = listed.process.now in
    let anchor = c.loop-anchor.anchor in
    let end = site_count chemistry.graph in
    let count = c.len-anchor-end.ensures.count in
    let test = c.loop-anchor-test.false in
    let all = c.args.entries.now ++ renewed event.draws event.event event.time event.fired c.args.old.now
    (by_code (instances_of chemistry (state_at states) number process)) in
    let left = instances_with chemistry states number process (range_with_len anchor (end - anchor)) in
    none-left event.draws event.event event.time event.fired c.args.old.now c.loop-anchor.entries all left
    (none-after chemistry states number process anchor end (omega arith)) c.loop-anchor.invariant.done
