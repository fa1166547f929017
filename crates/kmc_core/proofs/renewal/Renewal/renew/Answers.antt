use Rattle.std.proofs.Common.{◌≡◌, ◌+◌, ◌*◌, ◌^◌, ◌<◌, ◌≤◌, ◌∷◌, ◌++◌, length, drop, get_or, refl, ap, subst, sym, ◌∙◌, arith}
use Rattle.std.proofs.lemmas.List.{drop_all, drop_more}
use Rattle.std.specs.List.{AllByRecursion}
use Rattle.trajectory.specs.ByCode.{by_code}
use Rattle.deck.specs.Soundness.{dentates_in}
use Rattle.lattice_core.specs.Config.{state_at}
use Rattle.rate_rules.specs.System.{instances_from, instances_of}
use Rattle.trajectory.specs.Trajectory.{renewed}
use Rattle.rate_rules.specs.declared.chemistry.Process.{Process}
use Rattle.trajectory.specs.declared.instance.Instance.{Instance}
use Rattle.kmc_core.proofs.AnchorInstances.{listed-few, listed-fine, own-instances}
use Rattle.rate_rules.proofs.Instances.{process-from, process-to, processes-from}
use Rattle.kmc_core.proofs.MergedEntries.{added-alike, none-left, renewed-part}
use Rattle.kmc_core.proofs.renewal.Renewal.renew.Goals as goal

pub loop-number-preserved : goal.loop-number-preserved
loop-number-preserved g c =
    let kept = c.loop-number.invariant in
    let event = c.args.self.now in
    let old = c.args.old.now in
    let rest = c.loop-number.rest.now in
    let entries = c.loop-number.entries in
    let number = c.loop-number.number in
    let deck = c.args.deck.now in
    let states = c.args.config.now in
    let process : Process = c.process-item.result in
    let listed = c.new-listed.result in
    let is = c.new-listed.ensures.listed in
    let few = listed-few listed is in
    let fine = listed-fine listed is in
    let own : listed.number ≡ number = c.new-listed.ensures.number in
    let test = c.loop-number-test.true in
    let items = ap length c.as_slice-process-items.ensures in
    let low : number < length deck.chem.processes = omega arith in
    let at : get_or deck.chem.processes number process ≡ process =
    sym (c.process-item.is ∙ ap (λ ps. get_or ps number process) c.as_slice-process-items.ensures) in
    let all = c.args.entries.now ++ renewed event.draws event.event event.time event.fired old
    (by_code (instances_from deck.chem (state_at states) 0 deck.chem.processes)) in
    let here = instances_of listed.deck.now.chem (state_at listed.config.now) listed.number listed.process.now in
    let later = instances_from deck.chem (state_at states) (number + 1) (drop (number + 1) deck.chem.processes) in
    let split : instances_from deck.chem (state_at states) number (drop number deck.chem.processes) ≡ here ++ later
    = ap (instances_from deck.chem (state_at states) number)
    (drop_more deck.chem.processes number process low ∙ ap (λ p. p ∷ drop (number + 1) deck.chem.processes) at)
    ∙ ap (λ offers. offers ++ later)
    (own-instances listed deck states number process c.new-listed.ensures.deck c.new-listed.ensures.configuration
    own c.new-listed.ensures.process) in
    let more = added-alike c.loop-number.self event entries c.renew_process.new.entries rest (by_code here)
    (by_code here) kept.same refl c.in_ok-rest.ensures.value in
    record {
      done = renewed-part event.draws event.event event.time event.fired old rest (listed.number * 2 ^ 55)
          ((listed.number + 1) * 2 ^ 55) entries c.renew_process.new.entries all here later
          (λ code above. kept.found code (omega arith))
          (process-from (dentates_in listed.deck.now.book) listed.deck.now.chem is.sound.chemistry listed.config.now
          listed.number listed.process.now few is.process fine)
          (process-to (dentates_in listed.deck.now.book) listed.deck.now.chem is.sound.chemistry listed.config.now
          listed.number listed.process.now few is.process fine)
          (subst (λ n. AllByRecursion (λ (o : Instance). (n + 1) * 2 ^ 55 ≤ o.code) later) (sym own)
          (processes-from (dentates_in deck.book) deck.chem c.requires.deck.chemistry states (number + 1) (omega arith)))
          more
          (subst (λ offers. entries ++ renewed event.draws event.event event.time event.fired old (by_code offers) ≡ all) split kept.done);
      same = c.renew_process.ensures.same ∙ kept.same;
      rest = c.in_ok-rest.ensures.rest;
      found = λ code above. c.in_ok-rest.ensures.later code (omega arith) ∙ kept.found code (omega arith);
    }

pub returns : goal.returns
returns g c =
    let event = c.args.self.now in
    let deck = c.args.deck.now in
    let states = c.args.config.now in
    let number = c.loop-number.number in
    let test = c.loop-number-test.false in
    let items = ap length c.as_slice-process-items.ensures in
    let all = c.args.entries.now ++ renewed event.draws event.event event.time event.fired c.args.old.now
    (by_code (instances_from deck.chem (state_at states) 0 deck.chem.processes)) in
    let left = instances_from deck.chem (state_at states) number (drop number deck.chem.processes) in
    none-left event.draws event.event event.time event.fired c.args.old.now c.loop-number.entries all left
    (ap (instances_from deck.chem (state_at states) number) (drop_all number deck.chem.processes (omega arith))) c.loop-number.invariant.done
